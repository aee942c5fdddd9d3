-- The answer of a call: its result, or the number of a check with the state that was passed to the call.
--
-- A call returns a `Result`. `answer` and `answer_back` turn it into an answer, with the number of a refusal.
use Rattle.std.specs.Prelude.{ℕ, zero, suc, List, Result, Ok, Err}
use Rattle.masks.specs.Checks.{Check, first_failed}
use Rattle.masks.specs.Refusal.{number}
use Rattle.masks.specs.declared.refusal.Refusal.{Refusal}
use Rattle.masks.specs.declared.refusal.Refused.{Refused}

pub data Answer (S A : Type 0) : Type 0 where
  given : A → Answer S A
  refused : ℕ → S → Answer S A

-- the answer of a call that returns no record when it refuses
abbrev pub answer : {A : Type 0} → Result A Refusal → Answer (Unit {0}) A
answer (Ok a) = given a
answer (Err r) = refused (number r) tt

-- the answer of a call that returns the record passed to it when it refuses
abbrev pub answer_back : {S A : Type 0} → Result A (Refused S) → Answer S A
answer_back (Ok a) = given a
answer_back (Err e) = refused (number e.refusal) e.state

-- by the number of the first failed check, with the state s and the result a: given a if the number is 0, else refused
unfoldable pub decided : {S A : Type 0} → ℕ → S → A → Answer S A
decided zero s a = given a
decided (suc n) s a = refused (suc n) s

-- the answer of a call with the checks cs, the state s and the result a
abbrev pub checked : {S A : Type 0} → List Check → S → A → Answer S A
checked cs s a = decided (first_failed cs) s a

-- what a lent buffer holds after the call, by the number of the first failed check: new if it is 0, else old
unfoldable pub kept : {A : Type 0} → ℕ → A → A → A
kept zero new old = new
kept (suc n) new old = old

-- by the length of a bare span, for calls that make no check if it is 0: empty then, else the answer
unfoldable pub unless_empty : {A : Type 0} → ℕ → A → A → A
unless_empty zero empty answer = empty
unless_empty (suc n) empty answer = answer
