-- The plain reading of the definitions. Proofs of functions of words and masks use some of `Plain`.
pub mod ColumnPlain
pub mod Plain
