-- What the proofs of several functions of src/superseding.rt use.
pub mod SupersedingLaws
