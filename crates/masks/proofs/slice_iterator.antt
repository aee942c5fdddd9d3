-- What the proofs of several functions of src/slice_iterator.rt use.
pub mod RunLaws
