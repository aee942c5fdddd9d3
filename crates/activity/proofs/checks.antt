-- What the proofs of several functions of src/checks.rt use.
pub mod CheckLaws
