-- What the proofs of several functions of src/computed.rt use.
pub mod EdgeRows
pub mod OrderRows
pub mod Witnesses
pub mod WrongRunEnds
