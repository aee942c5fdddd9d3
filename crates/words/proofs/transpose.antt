-- What the proofs of several functions of src/transpose.rt use.
pub mod TransposeLaws
