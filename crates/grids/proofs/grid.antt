-- Laws of grids: lists by their numbers, and checks in a row.
pub mod CheckLaws
pub mod FlagLaws
pub mod ListingLaws
pub mod SumLaws
