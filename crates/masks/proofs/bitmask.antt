-- What the proofs of src/bitmask.rt, src/span.rt and src/span/search.rt use.
pub mod BitmaskLaws
pub mod SearchLaws
