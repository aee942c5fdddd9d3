-- Laws of reading run ends.
pub mod CheckLaws
pub mod FlagLaws
pub mod ReadLaws
pub mod WordLaws
