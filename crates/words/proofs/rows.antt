-- What the proofs of several functions of src/rows.rt use.
pub mod RowLaws
