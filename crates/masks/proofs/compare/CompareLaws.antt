-- Equality, the number of edges and the number of common ones. For `eq`, `num_edges` and `num_intersections_with`.
use mathlib.Core.Path.{◌≡◌, refl, sym, ap, ◌∙◌}
use mathlib.Core.Bool.{Bool, true, false, xor, ◌&&◌}
use mathlib.Core.List.{List, [], ◌∷◌, ◌++◌, zip_with}
use Prim.Native.Nat.{ℕ, zero, suc, ◌+◌, ◌-◌, ◌≤◌, ◌<◌}
use native.Mathlib.Omega.{arith}
use lib.Dec.{eqb}
use lib.ListN.{length, get_or}
use borrow.Author.Tests.{eqb-true}
use Rattle.words.specs.Counts.{same_flags}
use Rattle.words.specs.Flags.{count, digit, window}
use Rattle.words.specs.Ops.{op_of, zip3}
use Rattle.words.specs.declared.ops.Op.TheVariants.{And, Xor}
use Rattle.words.proofs.ops.Combining.{zip_two}
use Rattle.words.proofs.theorems.Plain.{same-equal}
use Rattle.words.proofs.flags.Windows.{length-window}
use Rattle.masks.specs.Checks.{Check, check, first_failed}
use Rattle.masks.specs.Compare.{edges, common_checks}
use Rattle.masks.specs.Mask.{mask_checks}
use Rattle.masks.specs.declared.bitmap.Bitmap.{Bitmap}
use Rattle.masks.proofs.checks.CheckLaws.{both_right, check-allowed}

-- lists of unequal lengths are not equal
pub lengths_differ : (a b : List Bool) → (length a ≡ length b → ⊥) → false ≡ same_flags a b
lengths_differ a b h = go (same_flags a b) refl
  where
    go : (t : Bool) → same_flags a b ≡ t → false ≡ t
    go true e = absurd (h (ap length (same-equal a b e)))
    go false e = refl

-- the edges of a list are the ones of the `xor` of the list with itself moved by one flag
edges-zip : (l : List Bool) (s n : ℕ) → edges (window l s (suc n)) ≡ count (zip_with xor (window l s n) (window l (suc s) n))
unfolding window edges count zip_with
edges-zip l s zero = refl
edges-zip l s (suc n) = ap (λ (x : ℕ). digit (xor (get_or l s false) (get_or l (suc s) false)) + x) (edges-zip l (suc s) n)

pub edges_few : (l : List Bool) (s n : ℕ) → n ≤ 1 → 0 ≡ edges (window l s n)
unfolding window edges
edges_few l s zero h = refl
edges_few l s (suc zero) h = refl
edges_few l s (suc (suc n)) h = absurd (omega arith)

pub edges-many : (l : List Bool) (s n r : ℕ) → 1 < n
    → r ≡ count (zip3 (op_of Xor) (window l s (n - 1)) (window l (s + 1) (n - 1)) (window l (s + 1) (n - 1))) → r ≡ edges (window l s n)
edges-many l s n r h e =
    let m : suc (n - 1) ≡ n = omega arith in
    let o : s + 1 ≡ suc s = omega arith in
    e ∙ ap count (zip_two xor (window l s (n - 1)) (window l (s + 1) (n - 1)) (window l (s + 1) (n - 1)) same same)
    ∙ ap (λ (x : ℕ). count (zip_with xor (window l s (n - 1)) (window l x (n - 1)))) o ∙ sym (edges-zip l s (n - 1))
    ∙ ap (λ (x : ℕ). edges (window l s x)) m
  where
    same : length (window l s (n - 1)) ≡ length (window l (s + 1) (n - 1))
    same = length-window l s (n - 1) ∙ sym (length-window l (s + 1) (n - 1))

pub common-ones : (A B : List Bool) (s t n m r : ℕ) → n ≡ m → r ≡ count (zip3 (op_of And) (window A s n) (window B t n) (window B t n))
    → r ≡ count (zip_with ◌&&◌ (window A s n) (window B t m))
common-ones A B s t n m r h e =
    e ∙ ap count (zip_two ◌&&◌ (window A s n) (window B t n) (window B t n) same same)
    ∙ ap (λ (k : ℕ). count (zip_with ◌&&◌ (window A s n) (window B t k))) h
  where
    same : length (window A s n) ≡ length (window B t n)
    same = length-window A s n ∙ sym (length-window B t n)

pub common_lengths : (a : Bitmap) (a_bytes : List ℕ) (b : Bitmap) (b_bytes : List ℕ) → first_failed (common_checks a a_bytes b b_bytes) ≡ 0
    → a.length ≡ b.length
unfolding common_checks
common_lengths a a_bytes b b_bytes e =
    let last : List Check = check 5 (eqb a.length b.length) ∷ [] in
    eqb-true a.length b.length (check-allowed 4 (eqb a.length b.length)
    (both_right (mask_checks b b_bytes) last (both_right (mask_checks a a_bytes) (mask_checks b b_bytes ++ last) e)))

pub same-length-eq : (A B : List Bool) (s t n m : ℕ) (r : Bool) → n ≡ m → r ≡ same_flags (window A s n) (window B t n)
    → r ≡ same_flags (window A s n) (window B t m)
same-length-eq A B s t n m r h e = e ∙ ap (λ (k : ℕ). same_flags (window A s n) (window B t k)) h
