-- What the proofs of src/true_idx.rt and src/true_idx/positions.rt use.
pub mod PositionLaws
pub mod PositionRuns
pub mod TrueIdxLaws
