-- The rows of `tables/`, by computation.
pub mod AnswerRows
