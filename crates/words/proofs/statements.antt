-- What theorems state that no proof of a function uses.
pub mod ColumnPlain
