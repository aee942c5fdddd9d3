-- What the proofs of several functions of src/aligned.rt use.
pub mod SplitLaws
