-- What the proofs of src/span.rt and src/span/search.rt use, and others that load a word.
pub mod SpanLaws
