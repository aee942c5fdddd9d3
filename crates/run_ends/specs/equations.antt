-- The calls as one equation each, as in masks.
pub mod Read
pub mod Write
