-- Laws of rows.
pub mod RowLaws
pub mod RowZeros
