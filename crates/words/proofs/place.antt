-- What the proofs of several functions of src/place.rt use.
pub mod PlaceLaws
