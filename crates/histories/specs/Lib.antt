-- Calls that make a mask from masks, as rows, which the contracts of this crate cite, and the reference list's own words. The theorem
-- on histories, which is stated in `proofs/statements/`, is about these; only it cites the tables of calls and what appends add.
pub mod GridRows
pub mod MaskRows
pub mod ReferenceList
pub mod Rows
pub mod RunEndRows
