-- What the theorems on histories use: the rows of src/run_end_rows.rt keep the invariant.
pub mod RunEndRowLaws
pub mod RunEndWordLaws
