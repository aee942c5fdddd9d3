-- What the theorems state. No contract of a function cites these definitions.
pub mod CountPlain
pub mod CountsUnseen
pub mod Reading
pub mod Refusals
pub mod RunEnds
pub mod RunLists
pub mod SerialPlain
