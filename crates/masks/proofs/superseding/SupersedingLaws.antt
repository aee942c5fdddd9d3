-- Which of two masks wins, and the part of its bytes: for `superseding_part` and the calls over it.
use mathlib.Core.Path.{◌≡◌, refl, sym, ap, ◌∙◌, subst}
use mathlib.Core.Bool.{Bool, true, false, cond, not, ◌||◌}
use mathlib.Core.List.{List, [], ◌∷◌, ◌++◌}
use Prim.Native.Nat.{ℕ, ◌+◌, ◌*◌, ◌≤◌, ◌<◌}
use native.Mathlib.Omega.{arith}
use lib.Dec.{ltb}
use lib.ListN.{length}
use borrow.Author.Tests.{eq-eqb, ne_eqb, le-ltb, lt-ltb}
use Rattle.words.specs.Counts.{same_flags}
use Rattle.masks.specs.Checks.{Check, check, earlier, first_failed, rank, place_in, span_checks}
use Rattle.masks.specs.Mask.{mask_checks, mask_flags}
use Rattle.masks.specs.Superseding.{agree, winner_of, superseding_checks, winning}
use Rattle.masks.specs.declared.bitmap.Bitmap.{Bitmap}
use Rattle.masks.specs.declared.superseding.Winner.{Winner}
use Rattle.masks.proofs.checks.CheckLaws.{SpanAllowed, before, both_left, both_right, earlier-none, failed-append, first-number}
use Rattle.masks.proofs.checks.CheckLaws.{one-check, passed-before, two_pieces}
use Rattle.masks.proofs.bitmap.MaskLaws.{mask-allowed}

module _ (a : Bitmap) (a_bytes : List ℕ) (b : Bitmap) (b_bytes : List ℕ) where
  abbrev masks : List Check
  masks = mask_checks a a_bytes ++ mask_checks b b_bytes

  -- every number of a mask's checks comes before 14 in the order
  pub masks-before : before 14 masks ≡ true
  unfolding mask_checks span_checks rank place_in
  masks-before = refl

  -- ---- the number of the checks

  -- masks of unequal serials are not compared
  pub apart : (r k l : ℕ) → (a.serial ≡ b.serial → ⊥) → r ≡ earlier k l → k ≡ first_failed (mask_checks a a_bytes)
      → l ≡ first_failed (mask_checks b b_bytes)
      → r ≡ first_failed (superseding_checks a a_bytes b b_bytes)
  unfolding superseding_checks
  apart r k l n e p q =
      let t : true ≡ agree a a_bytes b b_bytes =
      sym (ap (λ (x : Bool). not x || same_flags (mask_flags a a_bytes) (mask_flags b b_bytes)) (ne_eqb a.serial b.serial n)) in
      two_pieces k l r (mask_checks a a_bytes) (mask_checks b b_bytes) e p q
      ∙ sym (earlier-none (first_failed masks))
      ∙ ap (earlier (first_failed masks)) (one-check 0 14 true (agree a a_bytes b b_bytes) refl t)
      ∙ sym (failed-append masks (check 14 (agree a a_bytes b b_bytes) ∷ []))

  -- masks of equal serials are compared as `eq` compares them
  pub compared : (r : ℕ) (x : Bool) → a.serial ≡ b.serial → 0 ≡ first_failed masks
      → x ≡ same_flags (mask_flags a a_bytes) (mask_flags b b_bytes) → r ≡ cond x 0 14
      → r ≡ first_failed (superseding_checks a a_bytes b b_bytes)
  unfolding superseding_checks
  compared r x s e v p =
      let same = same_flags (mask_flags a a_bytes) (mask_flags b b_bytes) in
      let t : x ≡ agree a a_bytes b b_bytes = v ∙ sym (ap (λ (y : Bool). not y || same) (eq-eqb a.serial b.serial s)) in
      passed-before masks (check 14 (agree a a_bytes b b_bytes) ∷ []) r 0 e refl (one-check r 14 x (agree a a_bytes b b_bytes) p t)

  pub not-compared : (k : ℕ) → k ≡ first_failed masks → (k ≡ 0 → ⊥) → k ≡ first_failed (superseding_checks a a_bytes b b_bytes)
  unfolding superseding_checks
  not-compared k e some = first-number masks k 13 (agree a a_bytes b b_bytes) masks-before e some

  -- ---- all checks pass

  passed-masks : first_failed (superseding_checks a a_bytes b b_bytes) ≡ 0 → first_failed masks ≡ 0
  unfolding superseding_checks
  passed-masks e = both_left masks (check 14 (agree a a_bytes b b_bytes) ∷ []) e

  pub first-allowed-mask : first_failed (superseding_checks a a_bytes b b_bytes) ≡ 0 → SpanAllowed a.start a.length (length a_bytes)
  first-allowed-mask e = mask-allowed a a_bytes (both_left (mask_checks a a_bytes) (mask_checks b b_bytes) (passed-masks e))

  pub second-allowed-mask : first_failed (superseding_checks a a_bytes b b_bytes) ≡ 0 → SpanAllowed b.start b.length (length b_bytes)
  second-allowed-mask e = mask-allowed b b_bytes (both_right (mask_checks a a_bytes) (mask_checks b b_bytes) (passed-masks e))

-- ---- the winner

pub second_wins : (a b : Bitmap) (p : Winner) → a.serial < b.serial → p ≡ winner_of true b → p ≡ winning a b
second_wins a b p h made = made ∙ sym (ap (λ (t : Bool). cond t (winner_of true b) (winner_of false a)) (lt-ltb a.serial b.serial h))

pub first_wins : (a b : Bitmap) (p : Winner) → b.serial ≤ a.serial → p ≡ winner_of false a → p ≡ winning a b
first_wins a b p h made = made ∙ sym (ap (λ (t : Bool). cond t (winner_of true b) (winner_of false a)) (le-ltb a.serial b.serial h))

-- ---- the part of the bytes

-- a part lies inside the caller's slice
pub record Inside (p : Winner) (a_bytes b_bytes : List ℕ) : Type 0 where
  pub rising : p.from ≤ p.to
  pub ends : p.to ≤ length (cond p.second b_bytes a_bytes)

allowed-inside : (second : Bool) (m : Bitmap) (a_bytes b_bytes : List ℕ)
    → SpanAllowed m.start m.length (length (cond second b_bytes a_bytes))
    → Inside (winner_of second m) a_bytes b_bytes
allowed-inside second m a_bytes b_bytes s =
    let inside : m.start + m.length ≤ 8 * length (cond second b_bytes a_bytes) = s.inside in
    record { rising = omega arith; ends = omega arith }

winning-inside : (a : Bitmap) (a_bytes : List ℕ) (b : Bitmap) (b_bytes : List ℕ) → first_failed (superseding_checks a a_bytes b b_bytes) ≡ 0
    → Inside (winning a b) a_bytes b_bytes
winning-inside a a_bytes b b_bytes e = go (ltb a.serial b.serial)
  where
    go : (t : Bool) → Inside (cond t (winner_of true b) (winner_of false a)) a_bytes b_bytes
    go true = allowed-inside true b a_bytes b_bytes (second-allowed-mask a a_bytes b b_bytes e)
    go false = allowed-inside false a a_bytes b_bytes (first-allowed-mask a a_bytes b b_bytes e)

module _ (a : Bitmap) (a_bytes : List ℕ) (b : Bitmap) (b_bytes : List ℕ) (p : Winner)
    (e : 0 ≡ first_failed (superseding_checks a a_bytes b b_bytes)) (won : p ≡ winning a b) where
  pub won-inside : Inside p a_bytes b_bytes
  won-inside = subst (λ (x : Winner). Inside x a_bytes b_bytes) (sym won) (winning-inside a a_bytes b b_bytes (sym e))

  pub second-inside : p.second ≡ true → p.to ≤ length b_bytes
  second-inside s = subst (λ (t : Bool). p.to ≤ length (cond t b_bytes a_bytes)) s won-inside.ends

  pub first-inside : p.second ≡ false → p.to ≤ length a_bytes
  first-inside s = subst (λ (t : Bool). p.to ≤ length (cond t b_bytes a_bytes)) s won-inside.ends
