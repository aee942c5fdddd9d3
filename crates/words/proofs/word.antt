-- What the proofs of several functions of src/word.rt use.
pub mod Loads
