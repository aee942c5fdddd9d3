-- The theorems, and `RoundLaws`, which `Rounds` uses. No function needs them.
pub mod AndNotFlag
pub mod AnswerPlain
pub mod CountsUnseen
pub mod Refusals
pub mod RoundLaws
pub mod Rounds
