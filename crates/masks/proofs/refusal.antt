-- `RefusalLaws`: what the proofs of all calls use at a `?`. `AnswerLaws`: what other crates and the theorems use on answers.
pub mod AnswerLaws
pub mod RefusalLaws
pub mod ClauseLaws
pub mod SpanClauses
