-- What each answer of the code means: a value is given as exactly that value, with the number 0, and a refusal as the state that its error
-- holds, with its number.
--
-- A contract compares a call's result through `answer` or `failure_of`. If their cases were exchanged or a number altered, code with the
-- same error would be proved, and no table would show it, since the tables are about answers.
use Rattle.std.specs.Prelude.{◌≡◌, Ok, Err}
use Rattle.activity.specs.Window.{answer, failure_of, number}
use Rattle.activity.specs.declared.window.WindowRefusal.{WindowRefusal}
use Rattle.activity.specs.declared.window.WindowRefusal.TheVariants.{ImpossibleWindow}

pub record AnswersPlain : Type 1 where
  -- a call that returns the state when it refuses
  pub gives : {A : Type 0} (a : A) → (answer (Ok a)).value ≡ a
  pub accepts : {A : Type 0} (a : A) → (answer (Ok a)).refusal ≡ 0
  pub gives_back : {A : Type 0} (r : WindowRefusal) (a : A) → (answer (Err (record { refusal = r; state = a }))).value ≡ a
  pub refuses : {A : Type 0} (r : WindowRefusal) (a : A) → (answer (Err (record { refusal = r; state = a }))).refusal ≡ number r
  -- a call that refuses with only a number
  pub passes : {A : Type 0} (a : A) → failure_of (Ok a) ≡ 0
  pub fails : (A : Type 0) (r : WindowRefusal) → failure_of {A = A} (Err r) ≡ number r
  -- the number, as in the reference
  pub impossible_window : number ImpossibleWindow ≡ 16
