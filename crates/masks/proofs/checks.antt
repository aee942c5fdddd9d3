-- What the proofs of all modules use on checks. `LengthLaws` is for theorems only.
pub mod CheckLaws
pub mod LengthLaws
pub mod OrderLaws
