-- What the theorems state. No contract of a function cites these definitions.
pub mod AnswerPlain
pub mod CountsUnseen
pub mod Refusals
pub mod Rounds
