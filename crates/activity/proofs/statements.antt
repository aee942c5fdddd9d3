-- What the theorems state. No contract of a function cites these definitions.
pub mod AnswerPlain
pub mod CountPlain
pub mod Minutes
pub mod Refusals
