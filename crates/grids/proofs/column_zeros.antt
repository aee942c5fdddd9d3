-- What the proofs of several functions of src/column_zeros.rt use.
pub mod ZeroLaws
