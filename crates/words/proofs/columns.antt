-- What the proofs of src/columns.rt and src/planes.rt use, and those of activity.
pub mod ColumnLaws
pub mod PlaneReads
