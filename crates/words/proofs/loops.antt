-- What the proofs of src/loops.rt, src/kernels.rt and src/counts.rt use.
pub mod RestLaws
pub mod Writing
