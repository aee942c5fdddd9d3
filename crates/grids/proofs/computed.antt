-- The rows of `tables/`, by computation.
pub mod EdgeRows
pub mod LargeRows
pub mod OrderRows
pub mod Witnesses
pub mod WrongGrids
