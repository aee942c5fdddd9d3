-- What the proofs of several functions of src/planes.rt use.
pub mod AdderLaws
pub mod PlaneLaws
