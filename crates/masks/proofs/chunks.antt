-- What the proofs of several functions of src/chunks.rt use.
pub mod ChunkLaws
