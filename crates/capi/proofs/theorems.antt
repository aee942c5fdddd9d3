-- The theorems: on refusals, for which `EquationLaws` has laws of the equations of masks and dispatch, `WindowLaws` of a window of minutes;
-- on what the records of answers hold, and those that are passed and returned; and on records that are returned and passed back. No
-- function needs them.
pub mod AnswerPlain
pub mod EquationLaws
pub mod RecordLaws
pub mod RecordPlain
pub mod Refusals
pub mod StepPlain
pub mod WindowLaws
