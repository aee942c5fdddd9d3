-- The theorems, and the laws that they use. No function needs them.
pub mod CountPlain
pub mod CountsUnseen
pub mod GridLists
pub mod Grids
pub mod Refusals
pub mod SerialPlain
pub mod WrittenAccepted
