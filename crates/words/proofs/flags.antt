-- Bits of numbers, flags of bytes, windows of lists: what the proofs of most modules use.
pub mod Bits
pub mod Bytes
pub mod Windows
