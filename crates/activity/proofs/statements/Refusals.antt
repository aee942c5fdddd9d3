-- The number by which the calls may refuse, and the value of a refused answer.
use Rattle.std.specs.Prelude.{ℕ, ◌≡◌, false, cond, List, [], ◌∷◌, Result, Err}
use Rattle.activity.specs.Checks.{width_fits, left_by_minutes}
use Rattle.activity.specs.Window.{zeros, no_minute, answer, new_of, push_of, counts_of}
use Rattle.activity.specs.declared.window.ActivityWindow.{ActivityWindow}
use Rattle.activity.specs.declared.window.Refused.{Refused}
use Rattle.activity.specs.declared.window.WindowRefusal.TheVariants.{ImpossibleWindow}

-- the crate's one number
abbrev pub may_give : List ℕ
may_give = 16 ∷ []

-- the error of a refused call, which holds its state
abbrev pub holding_state : {A : Type 0} → A → Result A (Refused A)
holding_state state = Err (record { refusal = ImpossibleWindow; state = state })

-- Each call answers with the number 0 or 16, by the one check that it makes. If it is 16, the value of `new` is a record of zeros, that of
-- `push_minute` the caller's record unchanged, and that of `counts` 64 zeros.
pub record Refusals : Type 0 where
  pub new-number : (width : ℕ) → (new_of width).refusal ≡ cond (width_fits width) 0 16
  pub new-refused : (width : ℕ) → (new_of width).refusal ≡ 16 → (new_of width).value ≡ no_minute 0
  pub push-number : (a : ActivityWindow) (w : ℕ) → (push_of a w).refusal ≡ cond (left_by_minutes a) 0 16
  pub push-refused : (a : ActivityWindow) (w : ℕ) → (push_of a w).refusal ≡ 16 → (push_of a w).value ≡ a
  pub counts-number : (a : ActivityWindow) → (counts_of a).refusal ≡ cond (left_by_minutes a) 0 16
  pub counts-refused : (a : ActivityWindow) → (counts_of a).refusal ≡ 16 → (counts_of a).value ≡ zeros 64
  -- So a result r that meets the contract of its call is, if the check fails, the error that holds this value.
  pub new-returned : (width : ℕ) (r : Result ActivityWindow (Refused ActivityWindow)) → answer r ≡ new_of width
      → width_fits width ≡ false → r ≡ holding_state (no_minute 0)
  pub push-returned : (a : ActivityWindow) (w : ℕ) (r : Result ActivityWindow (Refused ActivityWindow)) → answer r ≡ push_of a w
      → left_by_minutes a ≡ false → r ≡ holding_state a
  pub counts-returned : (a : ActivityWindow) (r : Result (List ℕ) (Refused (List ℕ))) → answer r ≡ counts_of a
      → left_by_minutes a ≡ false → r ≡ holding_state (zeros 64)
  -- the record of zeros of a refused `new` is refused by the other two
  pub zeros-refused : left_by_minutes (no_minute 0) ≡ false
