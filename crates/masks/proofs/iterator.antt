-- What the proofs of several functions of src/iterator.rt use.
pub mod IteratorLaws
