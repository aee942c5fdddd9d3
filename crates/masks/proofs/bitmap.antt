-- What the proofs of several functions of src/bitmap.rt use.
pub mod MaskLaws
