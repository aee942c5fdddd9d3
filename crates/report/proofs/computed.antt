-- The rows of `tables/`, by computation.
pub mod ProgramRows
pub mod WrongAnswers
