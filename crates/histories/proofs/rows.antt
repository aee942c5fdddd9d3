-- What the theorems on histories use: the rows of src/rows.rt keep the invariant.
pub mod MaskRowLaws
pub mod RowLaws
