-- Lengths of lists that are made flag by flag, and what follows from check 9. For theorems on combinations.
use mathlib.Core.Path.{◌≡◌, refl, ap}
use mathlib.Core.Bool.{Bool}
use mathlib.Core.List.{List, [], ◌∷◌, zip_with}
use Prim.Native.Nat.{ℕ, suc, ◌+◌, ◌*◌, ◌/◌, ◌≤◌}
use native.Mathlib.Omega.{arith}
use lib.Dec.{leb}
use lib.ListN.{length}
use borrow.Author.Tests.{leb-true}
use Rattle.words.specs.Ops.{zip3}
use Rattle.masks.specs.Checks.{first_failed, output_checks}
use Rattle.masks.proofs.checks.CheckLaws.{check-allowed}

pub length-zip3 : (f : Bool → Bool → Bool → Bool) (a b c : List Bool) → length a ≡ length b → length a ≡ length c
    → length (zip3 f a b c) ≡ length a
unfolding zip3
length-zip3 f [] b c p q = refl
length-zip3 f (x ∷ a) [] c p q = absurd (omega arith)
length-zip3 f (x ∷ a) (y ∷ b) [] p q = absurd (omega arith)
length-zip3 f (x ∷ a) (y ∷ b) (z ∷ c) p q = ap suc (length-zip3 f a b c (omega arith) (omega arith))

pub length-zip2 : (f : Bool → Bool → Bool) (a b : List Bool) → length a ≡ length b → length (zip_with f a b) ≡ length a
unfolding zip_with
length-zip2 f [] b p = refl
length-zip2 f (x ∷ a) [] p = absurd (omega arith)
length-zip2 f (x ∷ a) (y ∷ b) p = ap suc (length-zip2 f a b (omega arith))

pub output-allowed : (n size : ℕ) → first_failed (output_checks n size) ≡ 0 → 8 * ((n + 63) / 64) ≤ size
unfolding output_checks
output-allowed n size e = leb-true (8 * ((n + 63) / 64)) size (check-allowed 8 (leb (8 * ((n + 63) / 64)) size) e)
