-- The theorems, and the laws that they use. No function needs them.
pub mod CountPlain
pub mod CountsUnseen
pub mod Reading
pub mod Refusals
pub mod RunEnds
pub mod RunLists
pub mod SerialPlain
