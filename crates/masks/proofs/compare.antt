-- What the proofs of several functions of src/compare.rt use.
pub mod CompareLaws
