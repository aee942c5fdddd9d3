-- What the proofs of several functions of src/uniform.rt use.
pub mod UniformLaws
