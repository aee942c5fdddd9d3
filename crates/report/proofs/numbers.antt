-- What the proofs of several functions of src/numbers.rt use.
pub mod NumberLaws
