-- What the theorems state. No contract of a function cites these definitions.
pub mod AnswerPlain
pub mod AppendPlain
pub mod CountPlain
pub mod CountsUnseen
pub mod CursorPlain
pub mod FrozenPlain
pub mod Listing
pub mod Refusals
pub mod SerialPlain
pub mod SupersedingPlain
pub mod TrueCounts
pub mod WindowPlain
