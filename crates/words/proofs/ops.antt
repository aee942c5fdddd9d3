-- What the proofs of several functions of src/ops.rt use.
pub mod Combining
