-- What the theorem on run lists uses.
pub mod RunListLaws
