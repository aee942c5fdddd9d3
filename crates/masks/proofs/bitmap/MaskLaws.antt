-- The mask's checks, its count, and the count of a slice.
use Rattle.std.proofs.lemmas.Bool.{cases_lt}
use Rattle.masks.specs.declared.refusal.Refusal.{Refusal}
use Rattle.masks.specs.declared.refusal.Refusal.TheVariants.{CountNotOfSlice}
use Rattle.std.specs.Prelude.{Option, Some, None, Result, Ok, Err}
use mathlib.Core.Path.{◌≡◌, refl, sym, ap, ◌∙◌, subst}
use mathlib.Core.Bool.{Bool, true, false, cond, ◌&&◌}
use mathlib.Core.List.{List, [], ◌∷◌}
use Prim.Native.Nat.{ℕ, ◌+◌, ◌-◌, ◌/◌, ◌≤◌, ◌<◌, max}
use native.Mathlib.Omega.{arith}
use mathlib.Core.Logic.{◌⊎◌, inl, inr, ⊎_elim}
use lib.Dec.{leb}
use lib.ListN.{length}
use borrow.Author.Tests.{le-leb, lt-leb, leb-true, eq-eqb, eqb-true, ne_eqb}
use Rattle.masks.specs.Checks.{Check, check, rank, place_in, first_failed, within_limit, span_checks}
use Rattle.masks.specs.Mask.{cut_mask, cut_zeros, sliced_mask, slice_checks, count_is, count_valid, mask_checks, mask_flags}
use Rattle.masks.specs.Mask.{piece_checks, recounts, kept_count, sliced_count, recount_valid}
use Rattle.masks.proofs.statements.TrueCounts.{Sound, TrueCount, Truthful}
use Rattle.masks.specs.Utils.{zeros}
use Rattle.masks.specs.Workers.{PieceAllowed, recounted_of, cut_of}
use Rattle.masks.specs.declared.bitmap.Bitmap.{Bitmap}
use Rattle.masks.proofs.checks.CheckLaws.{before, first-number, last_made, both_left, both_right}
use Rattle.masks.proofs.checks.CheckLaws.{span-allowed, SpanAllowed, rest-allowed, check-allowed}

-- what follows for the span of a mask if its checks pass
pub mask-allowed : (m : Bitmap) (bytes : List ℕ) → first_failed (mask_checks m bytes) ≡ 0 → SpanAllowed m.start m.length (length bytes)
unfolding mask_checks
mask-allowed m bytes e =
    span-allowed m.start m.length (length bytes)
    (both_left (span_checks m.start m.length (length bytes)) (check 3 (count_valid m bytes) ∷ []) e)

-- if check 3 passes, the count is unknown or true
count-true : (u : Option ℕ) (l : List Bool) → count_is u (zeros l) ≡ true → TrueCount u l
count-true (Some z) l e = eqb-true z (zeros l) e
count-true None l e = tt

-- a known count that is true is the number of zeros
pub known-zeros : (u : Option ℕ) (l : List Bool) (z : ℕ) → TrueCount u l → u ≡ Some z → z ≡ zeros l
known-zeros u l z t e = subst (λ (v : Option ℕ). TrueCount v l) e t

pub true-valid : (u : Option ℕ) (l : List Bool) → TrueCount u l → count_is u (zeros l) ≡ true
true-valid (Some z) l t = eq-eqb z (zeros l) t
true-valid None l t = refl

pub mask-truthful : (m : Bitmap) (bytes : List ℕ) → first_failed (mask_checks m bytes) ≡ 0 → Truthful m bytes
unfolding mask_checks
mask-truthful m bytes e =
    let span = span_checks m.start m.length (length bytes) in
    count-true m.unset (mask_flags m bytes) (check-allowed 2 (count_valid m bytes) (both_right span (check 3 (count_valid m bytes) ∷ []) e))

pub mask-sound : (m : Bitmap) (bytes : List ℕ) → first_failed (mask_checks m bytes) ≡ 0 → Sound m bytes
mask-sound m bytes e =
    let a = mask-allowed m bytes e in
    record { starts = a.starts; short = a.short; inside = a.inside; counts = mask-truthful m bytes e }

pub piece-allowed : (m : Bitmap) (bytes : List ℕ) (offset n : ℕ) → first_failed (piece_checks m bytes offset n) ≡ 0
    → PieceAllowed m (length bytes) offset n
unfolding piece_checks
piece-allowed m bytes offset n e =
    let rest : List Check =
    within_limit offset ∷ within_limit n ∷ within_limit (m.start + offset) ∷ check 6 (leb (offset + n) m.length) ∷ [] in
    let a = mask-allowed m bytes (both_left (mask_checks m bytes) rest e) in
    let six = rest-allowed (within_limit (m.start + offset)) (check 6 (leb (offset + n) m.length) ∷ [])
    (rest-allowed (within_limit n) (within_limit (m.start + offset) ∷ check 6 (leb (offset + n) m.length) ∷ [])
    (rest-allowed (within_limit offset) (within_limit n ∷ within_limit (m.start + offset) ∷ check 6 (leb (offset + n) m.length) ∷ [])
    (both_right (mask_checks m bytes) rest e))) in
    record {
      starts = a.starts;
      short = a.short;
      lent = a.inside;
      inside = leb-true (offset + n) m.length (check-allowed 5 (leb (offset + n) m.length) six);
    }

-- ---- the count of a slice

pub recounts-no : (old n z : ℕ) (b : Bool) → ((z ≡ 0 → ⊥) × (z ≡ old)) ⊎ (z ≡ 0) → b ≡ false → b ≡ recounts old n z
unfolding recounts
recounts-no old n z b (inl h) e = e ∙ rw (ne_eqb z 0 h.0, eq-eqb z old h.1)
recounts-no old n z b (inr h) e = e ∙ rw (eq-eqb z 0 h)

leb-less : (old n p : ℕ) → leb (old - n) p ≡ leb old (n + p)
leb-less old n p = ⊎_elim (λ (h : p < old - n). lt-leb (old - n) p h ∙ sym (lt-leb old (n + p) (omega arith)))
    (λ (h : old - n ≤ p). le-leb (old - n) p h ∙ sym (le-leb old (n + p) (omega arith))) (cases_lt p (old - n))

pub recounts-by : (old n z p : ℕ) → (z ≡ 0 → ⊥) → (z ≡ old → ⊥) → p ≡ max (old / 5) 32 → leb (old - n) p ≡ recounts old n z
unfolding recounts
recounts-by old n z p h k e = leb-less old n p ∙ rw (ne_eqb z 0 h, ne_eqb z old k, e)

-- the count of a slice, recounted
pub cut-known : (old n cut x z : ℕ) (u : Option ℕ) (r : Result (Option ℕ) Refusal) → u ≡ Some z → recounts old n z ≡ true
    → r ≡ recounted_of z x n → x ≡ cut → r ≡ cut_of old n cut u
unfolding recounted_of
cut-known old n cut x z u r k t e h =
    e ∙ ap (λ (y : ℕ). recounted_of z y n) h
    ∙ sym (ap (cut_of old n cut) k
    ∙ ap (λ (b : Bool). cond (cond b (leb cut z && leb (z - cut) n) true) (Ok (cond b (Some (z - cut)) (kept_count z old n)))
    (Err CountNotOfSlice)) t)

pub below-cut : (z cut n : ℕ) → z < cut → (Err CountNotOfSlice) ≡ recounted_of z cut n
unfolding recounted_of
below-cut z cut n h = rw (lt-leb cut z h)

pub above-length : (z cut n : ℕ) → cut ≤ z → n < z - cut → (Err CountNotOfSlice) ≡ recounted_of z cut n
unfolding recounted_of
above-length z cut n h k = rw (le-leb cut z h, lt-leb (z - cut) n k)

pub within_both : (z cut n : ℕ) → cut ≤ z → z - cut ≤ n → Ok (Some (z - cut)) ≡ recounted_of z cut n
unfolding recounted_of
within_both z cut n h k = rw (le-leb cut z h, le-leb (z - cut) n k)

-- whether check 7 passes, and the new count, by the value of `cut_of`
pub cut_wrong : (old n cut : ℕ) (u : Option ℕ) → (Err CountNotOfSlice) ≡ cut_of old n cut u → recount_valid old n cut u ≡ false
cut_wrong old n cut u e = go (recount_valid old n cut u) e
  where
    go : (t : Bool) → (Err CountNotOfSlice) ≡ cond t (Ok (sliced_count old n cut u)) (Err CountNotOfSlice) → t ≡ false
    go true e = absurd (let z : ◌≡◌ {A = ℕ} 0 1 = cc in omega arith)
    go false e = refl

pub cut-error : (old n cut : ℕ) (u : Option ℕ) (e : Refusal) → cut_of old n cut u ≡ Err e
    → (Err CountNotOfSlice ≡ cut_of old n cut u) × (e ≡ CountNotOfSlice)
cut-error old n cut u e h = go (recount_valid old n cut u) h
  where
    go : (t : Bool) → cond t (Ok (sliced_count old n cut u)) (Err CountNotOfSlice) ≡ Err e
        → (Err CountNotOfSlice ≡ cond t (Ok (sliced_count old n cut u)) (Err CountNotOfSlice)) × (e ≡ CountNotOfSlice)
    go true k = cc
    go false k = (refl, cc)

pub cut_right : (old n cut : ℕ) (u v : Option ℕ) → Ok v ≡ cut_of old n cut u
    → (recount_valid old n cut u ≡ true) × (v ≡ sliced_count old n cut u)
cut_right old n cut u v e = go (recount_valid old n cut u) e
  where
    go : (t : Bool) → Ok v ≡ cond t (Ok (sliced_count old n cut u)) (Err CountNotOfSlice) → (t ≡ true) × (v ≡ sliced_count old n cut u)
    go true e = (refl, cc)
    go false e = absurd (let z : ◌≡◌ {A = ℕ} 0 1 = cc in omega arith)

-- every number of a piece's checks comes before 7 in the order
pub piece-before : (m : Bitmap) (bytes : List ℕ) (offset n : ℕ) → before 7 (piece_checks m bytes offset n) ≡ true
unfolding piece_checks mask_checks span_checks rank place_in
piece-before m bytes offset n = refl

-- ---- the number and the mask of a slice

module _ (m : Bitmap) (bytes : List ℕ) (offset n k : ℕ) (piece : k ≡ first_failed (piece_checks m bytes offset n)) where
  pub slice-refused : (k ≡ 0 → ⊥) → k ≡ first_failed (slice_checks m bytes offset n)
  unfolding slice_checks
  slice-refused h =
      first-number (piece_checks m bytes offset n) k 6 (recount_valid m.length n (cut_zeros m bytes offset n) m.unset)
      (piece-before m bytes offset n) piece h

  pub slice_wrong : k ≡ 0 → (Err CountNotOfSlice) ≡ cut_of m.length n (cut_zeros m bytes offset n) m.unset
      → 7 ≡ first_failed (slice_checks m bytes offset n)
  unfolding slice_checks
  slice_wrong z e =
      ap (λ (t : Bool). cond t 0 7) (sym (cut_wrong m.length n (cut_zeros m bytes offset n) m.unset e))
      ∙ last_made (piece_checks m bytes offset n) k 6 (recount_valid m.length n (cut_zeros m bytes offset n) m.unset) piece z

  pub slice-right : (v : Option ℕ) → k ≡ 0 → Ok v ≡ cut_of m.length n (cut_zeros m bytes offset n) m.unset
      → (0 ≡ first_failed (slice_checks m bytes offset n)) × (cut_mask m (m.start + offset) n v ≡ sliced_mask m bytes offset n)
  unfolding slice_checks
  slice-right v z e =
      let known = cut_right m.length n (cut_zeros m bytes offset n) m.unset v e in (
        ap (λ (t : Bool). cond t 0 7) (sym known.0)
            ∙ last_made (piece_checks m bytes offset n) k 6 (recount_valid m.length n (cut_zeros m bytes offset n) m.unset) piece z,
        ap (λ (u : Option ℕ). cut_mask m (m.start + offset) n u) known.1,
      )
