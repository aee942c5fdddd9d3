-- What the proofs of several functions of src/nth.rt use.
pub mod NthLaws
