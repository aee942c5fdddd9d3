-- The calls as one equation each, as in masks.
pub mod Columns
pub mod Rows
pub mod Transpose
