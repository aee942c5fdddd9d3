-- The theorems, which no function needs.
pub mod AnswerPlain
pub mod CountPlain
pub mod MinuteLaws
pub mod Minutes
pub mod Refusals
