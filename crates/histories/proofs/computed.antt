-- The rows of `tables/`, by computation.
pub mod GoesOn
pub mod RunListRows
