-- What the proofs of src/merge.rt and src/word.rt use.
pub mod Merging
