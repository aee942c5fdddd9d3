-- What the proofs of several functions of src/next_and_not.rt use.
pub mod NextAndNotLaws
