-- What the proofs of several functions of src/counts.rt use.
pub mod AnyFlag
pub mod Counting
