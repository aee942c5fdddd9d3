-- What the proofs of several functions of src/program.rt use.
pub mod ProgramLaws
