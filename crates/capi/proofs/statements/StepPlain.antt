-- What the records of new cursors and of their steps hold, by cases on the call's answer; in the form of `AnswerPlain`.
--
-- `place` is the place of the cursor that the call returns, also of one that it refused, which is then the caller's own.
use Rattle.std.specs.Prelude.{ℕ, ◌≡◌, Bool, true, false, cond}
use Rattle.masks.specs.equations.Answer.{Answer, given, refused}
use Rattle.masks.specs.Cursor.{Step, item, ended}
use Rattle.masks.specs.declared.slice_iterator.Run.{Run}
use Rattle.capi.specs.Answers.{as_bit, as_cursor, as_remainder, as_run, as_step, as_taken, as_word}
use Rattle.capi.specs.declared.answers.StepAnswer.{StepAnswer}
use Rattle.capi.specs.declared.records.Cursor.{Cursor}

-- the record in place of a cursor if there is none
abbrev pub blank_cursor : Cursor
blank_cursor = record { start = 0; length = 0; place = 0; masked = 0 }

-- a new cursor
pub record CursorPlain (S C : Type 0) (out : C → Cursor) : Type 0 where
  pub given-refusal : (c : C) → (as_cursor {S = S} out (given c)).refusal ≡ 0
  pub given-cursor : (c : C) → (as_cursor {S = S} out (given c)).cursor ≡ out c
  pub refused-refusal : (k : ℕ) (s : S) → (as_cursor out (refused k s)).refusal ≡ k
  pub refused-cursor : (k : ℕ) (s : S) → (as_cursor out (refused k s)).cursor ≡ blank_cursor

-- a step of any item by a conversion `to`, where an item has these two numbers
pub record Steps (A C : Type 0) (to : Answer C (Step C A) → StepAnswer) (value count : A → ℕ) (place : C → ℕ) : Type 0 where
  pub item-refusal : (a : A) (c : C) → (to (given (item a c))).refusal ≡ 0
  pub item-found : (a : A) (c : C) → (to (given (item a c))).found ≡ true
  pub item-value : (a : A) (c : C) → (to (given (item a c))).value ≡ value a
  pub item-count : (a : A) (c : C) → (to (given (item a c))).count ≡ count a
  pub item-place : (a : A) (c : C) → (to (given (item a c))).place ≡ place c
  pub ended-refusal : (c : C) → (to (given (ended c))).refusal ≡ 0
  pub ended-found : (c : C) → (to (given (ended c))).found ≡ false
  pub ended-value : (c : C) → (to (given (ended c))).value ≡ 0
  pub ended-count : (c : C) → (to (given (ended c))).count ≡ 0
  pub ended-place : (c : C) → (to (given (ended c))).place ≡ place c
  pub refused-refusal : (k : ℕ) (c : C) → (to (refused k c)).refusal ≡ k
  pub refused-found : (k : ℕ) (c : C) → (to (refused k c)).found ≡ false
  pub refused-value : (k : ℕ) (c : C) → (to (refused k c)).value ≡ 0
  pub refused-count : (k : ℕ) (c : C) → (to (refused k c)).count ≡ 0
  pub refused-place : (k : ℕ) (c : C) → (to (refused k c)).place ≡ place c

-- a number of flags or positions, past which the cursor is moved
pub record TakenPlain (C : Type 0) (place : C → ℕ) : Type 0 where
  pub given-refusal : (n : ℕ) (c : C) → (as_taken place (given (n, c))).refusal ≡ 0
  pub given-found : (n : ℕ) (c : C) → (as_taken place (given (n, c))).found ≡ true
  pub given-value : (n : ℕ) (c : C) → (as_taken place (given (n, c))).value ≡ 0
  pub given-count : (n : ℕ) (c : C) → (as_taken place (given (n, c))).count ≡ n
  pub given-place : (n : ℕ) (c : C) → (as_taken place (given (n, c))).place ≡ place c
  pub refused-refusal : (k : ℕ) (c : C) → (as_taken place (refused k c)).refusal ≡ k
  pub refused-found : (k : ℕ) (c : C) → (as_taken place (refused k c)).found ≡ false
  pub refused-value : (k : ℕ) (c : C) → (as_taken place (refused k c)).value ≡ 0
  pub refused-count : (k : ℕ) (c : C) → (as_taken place (refused k c)).count ≡ 0
  pub refused-place : (k : ℕ) (c : C) → (as_taken place (refused k c)).place ≡ place c

-- the flags after the last whole word: the place is the one that was passed
pub record RemainderPlain (C : Type 0) : Type 0 where
  pub given-refusal : (place w n : ℕ) → (as_remainder {C = C} place (given (w, n))).refusal ≡ 0
  pub given-found : (place w n : ℕ) → (as_remainder {C = C} place (given (w, n))).found ≡ true
  pub given-value : (place w n : ℕ) → (as_remainder {C = C} place (given (w, n))).value ≡ w
  pub given-count : (place w n : ℕ) → (as_remainder {C = C} place (given (w, n))).count ≡ n
  pub given-place : (place w n : ℕ) → (as_remainder {C = C} place (given (w, n))).place ≡ place
  pub refused-refusal : (place k : ℕ) (c : C) → (as_remainder place (refused k c)).refusal ≡ k
  pub refused-found : (place k : ℕ) (c : C) → (as_remainder place (refused k c)).found ≡ false
  pub refused-value : (place k : ℕ) (c : C) → (as_remainder place (refused k c)).value ≡ 0
  pub refused-count : (place k : ℕ) (c : C) → (as_remainder place (refused k c)).count ≡ 0
  pub refused-place : (place k : ℕ) (c : C) → (as_remainder place (refused k c)).place ≡ place

-- all of these
pub record StepPlain : Type 1 where
  pub cursor : (S C : Type 0) (out : C → Cursor) → CursorPlain S C out
  pub any_step : (A C : Type 0) (value count : A → ℕ) (place : C → ℕ) → Steps A C (as_step value count place) value count place
  -- a step whose item is a number (a word, a position), a flag, a run
  pub word : (C : Type 0) (place : C → ℕ) → Steps ℕ C (as_word place) (λ n. n) (λ n. 0) place
  pub bit : (C : Type 0) (place : C → ℕ) → Steps Bool C (as_bit place) (λ x. cond x 1 0) (λ x. 0) place
  pub run : (C : Type 0) (place : C → ℕ) → Steps Run C (as_run place) (λ r. r.start) (λ r. r.length) place
  pub taken : (C : Type 0) (place : C → ℕ) → TakenPlain C place
  pub remainder : (C : Type 0) → RemainderPlain C
