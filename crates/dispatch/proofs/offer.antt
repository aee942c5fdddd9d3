-- What the proofs of several functions of src/offer.rt use.
pub mod OfferLaws
