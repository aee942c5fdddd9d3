-- What the contracts of this crate mean: how records and answers are passed as numbers. What a call answers is defined in words, activity,
-- masks and dispatch.
pub mod Answers
pub mod Records
pub mod Window
pub mod Workers
