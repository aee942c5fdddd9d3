-- What the proofs of several functions of src/ends.rt use.
pub mod EndLaws
