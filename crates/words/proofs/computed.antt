-- The rows of `tables/`, by computation.
pub mod HighRows
pub mod WordRows
pub mod WrongAnswers
