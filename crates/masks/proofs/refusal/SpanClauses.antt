-- From the clauses of the calls that answer at length 0 before any check to their answers: one law for each value. For the exports.
use Rattle.std.specs.Prelude.{Result, IfOk}
use mathlib.Core.Path.{◌≡◌, refl}
use mathlib.Core.Bool.{Bool}
use mathlib.Core.List.{List}
use Prim.Native.Nat.{ℕ}
use native.Mathlib.Omega.{arith}
use lib.ListN.{length}
use Rattle.words.specs.Ends.{leading, trailing}
use Rattle.words.specs.Flags.{flags_of}
use Rattle.words.specs.Loops.{stretch}
use Rattle.words.proofs.ends.EndLaws.{leading_le, trailing_le}
use Rattle.words.proofs.flags.Windows.{length-window}
use Rattle.masks.specs.Aligned.{aligned_checks, aligned_split}
use Rattle.masks.specs.equations.Aligned.{aligned_of, empty_split}
use Rattle.masks.specs.equations.Answer.{answer}
use Rattle.masks.specs.Checks.{first_failed, span_checks}
use Rattle.masks.specs.Iterator.{first_iter}
use Rattle.masks.specs.equations.Iterator.{new_iter}
use Rattle.masks.specs.Refusal.{failure_of}
use Rattle.masks.specs.Utils.{zeros}
use Rattle.masks.specs.equations.Utils.{span_count}
use Rattle.masks.specs.declared.aligned.AlignedBitmapSlice.{AlignedBitmapSlice}
use Rattle.masks.specs.declared.iterator.BitmapIter.{BitmapIter}
use Rattle.masks.specs.declared.refusal.Refusal.{Refusal}
use Rattle.masks.proofs.aligned.SplitLaws.{split-none}
use Rattle.masks.proofs.refusal.ClauseLaws.{answered_unless}
use Rattle.masks.proofs.utils.PartLaws.{zeros-none}

module _ (r : Result ℕ Refusal) (bytes : List ℕ) (start n address : ℕ) (empty : n ≡ 0 → failure_of r ≡ 0)
    (some : (n ≡ 0 → ⊥) → failure_of r ≡ first_failed (aligned_checks start n (length bytes) address)) where
  abbrev counted : ℕ → Type 0
  counted value = IfOk r (λ k. k ≡ value) → answer r ≡ span_count bytes start n address value

  pub zeros_counted : counted (zeros (stretch bytes start n))
  unfolding span_count
  zeros_counted v = answered_unless r n _ 0 _ empty some v (zeros-none bytes start n)

  pub leading_counted : (x : Bool) → counted (leading x (stretch bytes start n))
  unfolding span_count
  leading_counted x v =
      answered_unless r n _ 0 _ empty some v
      (λ e. omega (arith, leading_le x (stretch bytes start n), length-window (flags_of bytes) start n, e))

  pub trailing_counted : (x : Bool) → counted (trailing x (stretch bytes start n))
  unfolding span_count
  trailing_counted x v =
      answered_unless r n _ 0 _ empty some v
      (λ e. omega (arith, trailing_le x (stretch bytes start n), length-window (flags_of bytes) start n, e))

pub split_made : (r : Result AlignedBitmapSlice Refusal) (bytes : List ℕ) (start n address : ℕ) → (n ≡ 0 → failure_of r ≡ 0)
    → ((n ≡ 0 → ⊥) → failure_of r ≡ first_failed (aligned_checks start n (length bytes) address))
    → IfOk r (λ s. s ≡ aligned_split bytes start n address) → answer r ≡ aligned_of bytes start n address
unfolding aligned_of
split_made r bytes start n address empty some v = answered_unless r n _ empty_split _ empty some v (split-none bytes start n address)

pub iter_made : (r : Result BitmapIter Refusal) (bytes : List ℕ) (start n : ℕ) → (n ≡ 0 → failure_of r ≡ 0)
    → ((n ≡ 0 → ⊥) → failure_of r ≡ first_failed (span_checks start n (length bytes)))
    → IfOk r (λ c. c ≡ first_iter start n) → answer r ≡ new_iter bytes start n
unfolding new_iter
iter_made r bytes start n empty some v = answered_unless r n _ (first_iter start n) (first_iter start n) empty some v (λ e. refl)
