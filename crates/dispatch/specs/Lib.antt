-- What the contracts of this crate mean.
pub mod Reassign
pub mod Offer
pub mod equations
