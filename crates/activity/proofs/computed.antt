-- The rows of `tables/`, by computation.
pub mod FullRows
pub mod Witnesses
pub mod WrongAnswers
