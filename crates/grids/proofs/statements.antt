-- What the theorems state. No contract of a function cites these definitions.
pub mod CountPlain
pub mod CountsUnseen
pub mod Grids
pub mod Refusals
pub mod SerialPlain
