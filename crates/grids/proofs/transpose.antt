-- What the proofs of several functions of src/transpose.rt use.
pub mod BlockLaws
pub mod WholeLaws
