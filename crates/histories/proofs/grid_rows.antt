-- What the theorems on histories use: the rows of src/grid_rows.rt keep the invariant.
pub mod GridRowLaws
pub mod GridWordLaws
