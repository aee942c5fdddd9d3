-- The number of each call is that of its one check.
use Rattle.std.proofs.Common.{◌≡◌, refl, ap, ◌∙◌, arith, ℕ, Bool, true, false, cond, Result, Ok, Err}
use Rattle.activity.specs.Checks.{width_fits, inside_fits, numbers_fit, left_by_minutes}
use Rattle.activity.proofs.statements.Refusals.{holding_state, Refusals}
use Rattle.activity.specs.Window.{zeros, no_minute, minute_on, accepted, refused, answer, new_of, push_of, counts_of}
use Rattle.activity.specs.declared.window.Refused.{Refused}
use Rattle.activity.specs.declared.window.WindowRefusal.{WindowRefusal}
use Rattle.activity.specs.declared.window.WindowRefusal.TheVariants.{ImpossibleWindow}

number : {A : Type 0} (t : Bool) (a b : A) → (cond t (accepted a) (refused b)).refusal ≡ cond t 0 16
number true a b = refl
number false a b = refl

given_back : {A : Type 0} (t : Bool) (a b : A) → (cond t (accepted a) (refused b)).refusal ≡ 16
    → (cond t (accepted a) (refused b)).value ≡ b
given_back true a b h = cc
given_back false a b h = refl

by-refusal : {A : Type 0} (k : WindowRefusal) (state b : A) → state ≡ b → Err (record { refusal = k; state = state }) ≡ holding_state b
by-refusal ImpossibleWindow state b e = ap holding_state e

with-state : {A : Type 0} (r : Result A (Refused A)) (b : A) → answer r ≡ refused b → r ≡ holding_state b
with-state (Ok x) b e = absurd (let z : ◌≡◌ {A = ℕ} 0 16 = ap (λ a. a.refusal) e in omega (arith, z))
with-state (Err x) b e = by-refusal x.refusal x.state b (ap (λ a. a.value) e)

returned : {A : Type 0} (t : Bool) (a b : A) (r : Result A (Refused A)) → answer r ≡ cond t (accepted a) (refused b) → t ≡ false
    → r ≡ holding_state b
returned t a b r e f = with-state r b (e ∙ ap (λ (u : Bool). cond u (accepted a) (refused b)) f)

pub refusals : Refusals
unfolding no_minute new_of push_of counts_of left_by_minutes numbers_fit inside_fits width_fits
refusals =
    record {
      new-number = λ width. number (width_fits width) (no_minute width) (no_minute 0);
      new-refused = λ width. given_back (width_fits width) (no_minute width) (no_minute 0);
      push-number = λ a w. number (left_by_minutes a) (minute_on a w) a;
      push-refused = λ a w. given_back (left_by_minutes a) (minute_on a w) a;
      counts-number = λ a. number (left_by_minutes a) a.counts (zeros 64);
      counts-refused = λ a. given_back (left_by_minutes a) a.counts (zeros 64);
      new-returned = λ width. returned (width_fits width) (no_minute width) (no_minute 0);
      push-returned = λ a w. returned (left_by_minutes a) (minute_on a w) a;
      counts-returned = λ a. returned (left_by_minutes a) a.counts (zeros 64);
      zeros-refused = refl;
    }
