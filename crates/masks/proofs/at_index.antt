-- What the proofs of several functions of src/at_index.rt use.
pub mod AtIndexLaws
