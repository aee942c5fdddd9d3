-- What the proofs of src/exchange.rt and src/lent.rt use, and the theorems.
pub mod WindowLaws
