-- What the proofs of all cursors use, and the theorems on what a cursor lists.
pub mod CursorLaws
pub mod ListingLaws
