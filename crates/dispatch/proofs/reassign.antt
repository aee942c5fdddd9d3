-- What the proof of `may_reassign` uses, and the theorems on it.
pub mod ReassignLaws
