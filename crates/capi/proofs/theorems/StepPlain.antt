-- The statements of `proofs/statements/StepPlain.antt`, each by computation.
use mathlib.Core.Path.{◌≡◌, refl, ap}
use Rattle.std.specs.Prelude.{ℕ, Bool, true, false, cond}
use Rattle.masks.specs.equations.Answer.{Answer, given, refused}
use Rattle.masks.specs.Cursor.{Step, item, ended}
use Rattle.masks.specs.declared.slice_iterator.Run.{Run}
use Rattle.capi.specs.Answers.{as_bit, as_cursor, as_remainder, as_run, as_step, as_taken, as_word}
use Rattle.capi.specs.declared.answers.StepAnswer.{StepAnswer}
use Rattle.capi.specs.declared.records.Cursor.{Cursor}
use Rattle.capi.proofs.statements.StepPlain.{CursorPlain, RemainderPlain, StepPlain, Steps, TakenPlain}

cursor : (S C : Type 0) (out : C → Cursor) → CursorPlain S C out
unfolding as_cursor
cursor S C out =
    record {
      given-refusal = λ c. refl;
      given-cursor = λ c. refl;
      refused-refusal = λ k s. refl;
      refused-cursor = λ k s. refl;
    }

-- a conversion that is `as_step` with these numbers of an item
steps : (A C : Type 0) (to : Answer C (Step C A) → StepAnswer) (value count : A → ℕ) (place : C → ℕ)
    → ((a : Answer C (Step C A)) → to a ≡ as_step value count place a) → Steps A C to value count place
unfolding as_step
steps A C to value count place e =
    record {
      item-refusal = λ a c. ap (λ (r : StepAnswer). r.refusal) (e (given (item a c)));
      item-found = λ a c. ap (λ (r : StepAnswer). r.found) (e (given (item a c)));
      item-value = λ a c. ap (λ (r : StepAnswer). r.value) (e (given (item a c)));
      item-count = λ a c. ap (λ (r : StepAnswer). r.count) (e (given (item a c)));
      item-place = λ a c. ap (λ (r : StepAnswer). r.place) (e (given (item a c)));
      ended-refusal = λ c. ap (λ (r : StepAnswer). r.refusal) (e (given (ended c)));
      ended-found = λ c. ap (λ (r : StepAnswer). r.found) (e (given (ended c)));
      ended-value = λ c. ap (λ (r : StepAnswer). r.value) (e (given (ended c)));
      ended-count = λ c. ap (λ (r : StepAnswer). r.count) (e (given (ended c)));
      ended-place = λ c. ap (λ (r : StepAnswer). r.place) (e (given (ended c)));
      refused-refusal = λ k c. ap (λ (r : StepAnswer). r.refusal) (e (refused k c));
      refused-found = λ k c. ap (λ (r : StepAnswer). r.found) (e (refused k c));
      refused-value = λ k c. ap (λ (r : StepAnswer). r.value) (e (refused k c));
      refused-count = λ k c. ap (λ (r : StepAnswer). r.count) (e (refused k c));
      refused-place = λ k c. ap (λ (r : StepAnswer). r.place) (e (refused k c));
    }

word : (C : Type 0) (place : C → ℕ) → Steps ℕ C (as_word place) (λ n. n) (λ n. 0) place
unfolding as_word
word C place = steps ℕ C (as_word place) (λ n. n) (λ n. 0) place (λ a. refl)

bit-step : (C : Type 0) (place : C → ℕ) (a : Answer C (Step C Bool))
    → as_bit place a ≡ as_step (λ (x : Bool). cond x 1 0) (λ (x : Bool). 0) place a
unfolding as_bit as_step
bit-step C place (given (item true c)) = refl
bit-step C place (given (item false c)) = refl
bit-step C place (given (ended c)) = refl
bit-step C place (refused k c) = refl

bit : (C : Type 0) (place : C → ℕ) → Steps Bool C (as_bit place) (λ x. cond x 1 0) (λ x. 0) place
bit C place = steps Bool C (as_bit place) (λ x. cond x 1 0) (λ x. 0) place (bit-step C place)

run : (C : Type 0) (place : C → ℕ) → Steps Run C (as_run place) (λ r. r.start) (λ r. r.length) place
unfolding as_run
run C place = steps Run C (as_run place) (λ r. r.start) (λ r. r.length) place (λ a. refl)

taken : (C : Type 0) (place : C → ℕ) → TakenPlain C place
unfolding as_taken
taken C place =
    record {
      given-refusal = λ n c. refl;
      given-found = λ n c. refl;
      given-value = λ n c. refl;
      given-count = λ n c. refl;
      given-place = λ n c. refl;
      refused-refusal = λ k c. refl;
      refused-found = λ k c. refl;
      refused-value = λ k c. refl;
      refused-count = λ k c. refl;
      refused-place = λ k c. refl;
    }

remainder : (C : Type 0) → RemainderPlain C
unfolding as_remainder
remainder C =
    record {
      given-refusal = λ place w n. refl;
      given-found = λ place w n. refl;
      given-value = λ place w n. refl;
      given-count = λ place w n. refl;
      given-place = λ place w n. refl;
      refused-refusal = λ place k c. refl;
      refused-found = λ place k c. refl;
      refused-value = λ place k c. refl;
      refused-count = λ place k c. refl;
      refused-place = λ place k c. refl;
    }

pub step-plain : StepPlain
step-plain =
    record {
      cursor = cursor;
      any_step = λ A C value count place. steps A C (as_step value count place) value count place (λ a. refl);
      word = word;
      bit = bit;
      run = run;
      taken = taken;
      remainder = remainder;
    }
