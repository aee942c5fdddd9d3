-- What the proofs of several functions of src/changes.rt use, and laws of flags that change for crates above.
pub mod ChangeLaws
