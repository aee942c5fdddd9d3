-- What the proofs of several functions of src/short.rt use.
pub mod ShortLaws
