-- What the proofs of src/utils.rt and src/span_ends.rt use, and others that read a word's first flags.
pub mod PartLaws
