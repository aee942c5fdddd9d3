-- Laws of columns.
pub mod ColumnLaws
