-- Laws of the rules on ends.
pub mod EndLaws
