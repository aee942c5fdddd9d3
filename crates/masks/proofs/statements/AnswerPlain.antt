-- What each answer of the code means: a value is given as exactly that value, and a refusal refuses by its number, with the record that it
-- carries.
--
-- A clause names a refusal through `failure_of` or `failure_back` and a step through `step_of`; a call's equation, which is the contract of
-- its export, compares its answer through `answer`, `answer_back`, `answer_step` or `change_answer`. If their cases were exchanged there or
-- a number altered, code with the same error would be proved, and no table would show it, since the tables are about what is given and
-- refused.
use Rattle.std.specs.Prelude.{◌≡◌, Some, None, Ok, Err}
use Rattle.masks.specs.equations.Answer.{given, refused, answer, answer_back}
use Rattle.masks.specs.equations.Appends.{change_answer}
use Rattle.masks.specs.Cursor.{item, ended}
use Rattle.masks.specs.equations.Cursor.{answer_step}
use Rattle.masks.specs.Refusal.{failure_back, failure_of, number}
use Rattle.masks.specs.declared.builder.BitmapBuilder.{BitmapBuilder}
use Rattle.masks.specs.declared.refusal.Refusal.{Refusal}
use Rattle.masks.specs.declared.refusal.Refusal.TheVariants.{AboveLimit, OutsideBytes, BrokenRunEnds, FalseCount, SerialConflict}
use Rattle.masks.specs.declared.refusal.Refusal.TheVariants.{ImpossibleBuilder, UnequalLengths, NotAGrid, OutsideMask, CountNotOfSlice}
use Rattle.masks.specs.declared.refusal.Refusal.TheVariants.{AddressRemainder, OutputTooSmall}

-- the numbers of the refusals, as in the reference: written from include/refusals.txt
pub record NumbersPlain : Type 0 where
  pub above_limit : number AboveLimit ≡ 1
  pub outside_bytes : number OutsideBytes ≡ 2
  pub false_count : number FalseCount ≡ 3
  pub impossible_builder : number ImpossibleBuilder ≡ 4
  pub unequal_lengths : number UnequalLengths ≡ 5
  pub outside_mask : number OutsideMask ≡ 6
  pub count_not_of_slice : number CountNotOfSlice ≡ 7
  pub address_remainder : number AddressRemainder ≡ 8
  pub output_too_small : number OutputTooSmall ≡ 9
  pub not_a_grid : number NotAGrid ≡ 12
  pub broken_run_ends : number BrokenRunEnds ≡ 13
  pub serial_conflict : number SerialConflict ≡ 14

pub record AnswersPlain : Type 1 where
  -- a call that refuses with only a number
  pub gives : {A : Type 0} (a : A) → answer (Ok a) ≡ given a
  pub refuses : {A : Type 0} (r : Refusal) → answer {A = A} (Err r) ≡ refused (number r) tt
  -- a call that returns the record passed to it when it refuses
  pub gives_back : {S A : Type 0} (a : A) → answer_back {S = S} (Ok a) ≡ given a
  pub refuses_back : {S A : Type 0} (r : Refusal) (s : S)
      → answer_back {A = A} (Err (record { refusal = r; state = s })) ≡ refused (number r) s
  -- a call on a cursor
  pub steps : {C A : Type 0} (a : A) (c : C) → answer_step (Ok (record { item = Some a; cursor = c })) ≡ given (item a c)
  pub ends : {C A : Type 0} (c : C) → answer_step {A = A} (Ok (record { item = None; cursor = c })) ≡ given (ended c)
  pub refuses_step : {C A : Type 0} (r : Refusal) (c : C)
      → answer_step {A = A} (Err (record { refusal = r; state = c })) ≡ refused (number r) c
  -- `push_mut`, which changes the caller's own record
  pub changed : (b : BitmapBuilder) → change_answer 0 b ≡ given b
  -- the number that a contract names
  pub passes : {A : Type 0} (a : A) → failure_of (Ok a) ≡ 0
  pub fails : (A : Type 0) (r : Refusal) → failure_of {A = A} (Err r) ≡ number r
  pub passes_back : {A : Type 0} (S : Type 0) (a : A) → failure_back {S = S} (Ok a) ≡ 0
  pub fails_back : {S : Type 0} (A : Type 0) (r : Refusal) (s : S)
      → failure_back {A = A} (Err (record { refusal = r; state = s })) ≡ number r
  pub numbers : NumbersPlain
