-- What the theorems state. No contract of a function cites these definitions.
pub mod AnswerPlain
pub mod RecordPlain
pub mod Refusals
pub mod StepPlain
