-- The calls as one equation each, as in masks.
pub mod Reassign
pub mod Offer
