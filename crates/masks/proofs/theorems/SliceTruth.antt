-- A slice of a mask with a true count has a true count. No slice is refused with 7: check 7 may fail for a false count, but then check 3,
-- which comes before it, fails too. A slice of the whole mask changes nothing. The count of a combination is true of the flags that it
-- writes.
use Rattle.masks.specs.declared.refusal.Refusal.TheVariants.{CountNotOfSlice}
use Rattle.std.specs.Prelude.{Option, Some, None, Ok, Err}
use mathlib.Core.Path.{◌≡◌, refl, sym, ap, ap₂, ◌∙◌}
use mathlib.Core.Bool.{Bool, true, false, not, cond, ◌&&◌}
use mathlib.Core.List.{List, [], ◌∷◌, ◌++◌}
use Prim.Native.Nat.{ℕ, zero, suc, ◌+◌, ◌-◌, ◌/◌, ◌≤◌, max}
use native.Mathlib.Nat.{mul-zero}
use native.Mathlib.Omega.{arith}
use lib.Dec.{eqb, leb}
use lib.ListN.{length}
use borrow.Author.Tests.{le-leb, eqb-true}
use Rattle.words.specs.Flags.{copies, count, flags_of, window}
use Rattle.words.proofs.counts.Counting.{count_add, count-copies, count-not}
use Rattle.words.proofs.flags.Windows.{in_window, length-copies, length-window}
use Rattle.masks.specs.equations.Answer.{given, decided, checked}
use Rattle.masks.specs.Checks.{Check, check, earlier, first_failed, limit, within_limit}
use Rattle.masks.specs.Combine.{result_count}
use Rattle.masks.specs.Workers.{result_flags}
use Rattle.masks.specs.Mask.{cut_zeros, kept_count, mask_checks, mask_flags, mask_under, piece_checks}
use Rattle.masks.specs.Mask.{recounts, recount_valid, slice_checks, sliced_count, sliced_mask, uncounted}
use Rattle.masks.specs.equations.Mask.{slice_of}
use Rattle.masks.proofs.statements.TrueCounts.{TrueCount, Truthful}
use Rattle.masks.specs.Utils.{zeros}
use Rattle.masks.specs.Workers.{PieceAllowed, cut_of}
use Rattle.masks.specs.declared.bitmap.Bitmap.{Bitmap}
use Rattle.masks.proofs.checks.CheckLaws.{both_left, first-number, is-given, last_made, passed-before}
use Rattle.masks.proofs.bitmap.MaskLaws.{mask-allowed, mask-truthful, piece-allowed, piece-before, slice-right}
use Rattle.masks.proofs.utils.PartLaws.{zeros-most, zeros-none}

zeros-add : (l : List Bool) (k a b : ℕ) → zeros (window l k (a + b)) ≡ zeros (window l k a) + zeros (window l (k + a) b)
unfolding zeros
zeros-add l k a b =
    omega (
      arith,
      count_add l k a b,
      count-not (window l k (a + b)),
      count-not (window l k a),
      count-not (window l (k + a) b),
      length-window l k (a + b),
      length-window l k a,
      length-window l (k + a) b,
    )

count-none-set : (n : ℕ) → count (copies n false) ≡ 0
count-none-set n = count-copies n false ∙ mul-zero n

zeros-of-zeros : (n : ℕ) → zeros (copies n false) ≡ n
unfolding zeros
zeros-of-zeros n = omega (arith, count-not (copies n false), length-copies n false, count-none-set n)

-- the count of a mask whose flags are not counted (unknown, or 0 for no flags) is true
pub none_true : (n : ℕ) (l : List Bool) → length l ≡ n → TrueCount (uncounted n) l
none_true n l e = go (eqb n 0) refl
  where
    go : (t : Bool) → eqb n 0 ≡ t → TrueCount (cond t (Some 0) None) l
    go true p = let z : n ≡ 0 = eqb-true n 0 p in let r : 0 ≡ zeros l = omega (arith, zeros-most l n (zeros l) e refl) in r
    go false p = tt

-- ---- a slice of n flags that starts at `offset`, of `old` flags that start at `start`

module _ (l : List Bool) (start old offset n : ℕ) (h : offset + n ≤ old) where
  abbrev first : ℕ
  first = zeros (window l start offset)

  abbrev middle : ℕ
  middle = zeros (window l (start + offset) n)

  abbrev last : ℕ
  last = zeros (window l (start + offset + n) (old - (offset + n)))

  in_three : zeros (window l start old) ≡ first + middle + last
  in_three =
      let e : old ≡ offset + (n + (old - (offset + n))) = omega arith in
      ap (λ (x : ℕ). zeros (window l start x)) e
      ∙ omega (arith, zeros-add l start offset (n + (old - (offset + n))), zeros-add l (start + offset) n (old - (offset + n)))

  first-most : first ≤ offset
  first-most = zeros-most (window l start offset) offset first (length-window l start offset) refl

  middle-most : middle ≤ n
  middle-most = zeros-most (window l (start + offset) n) n middle (length-window l (start + offset) n) refl

  last-most : last ≤ old - (offset + n)
  last-most =
      zeros-most (window l (start + offset + n) (old - (offset + n))) (old - (offset + n)) last
      (length-window l (start + offset + n) (old - (offset + n))) refl

  kept-true : (z : ℕ) → z ≡ zeros (window l start old) → TrueCount (kept_count z old n) (window l (start + offset) n)
  unfolding kept_count
  kept-true z e = go (eqb z 0) (eqb z old) refl refl
    where
      go : (a b : Bool) → eqb z 0 ≡ a → eqb z old ≡ b → TrueCount (cond a (Some 0) (cond b (Some n) None)) (window l (start + offset) n)
      go true b p q = let z0 : z ≡ 0 = eqb-true z 0 p in let r : 0 ≡ middle = omega (arith, in_three) in r
      go false true p q =
          let zo : z ≡ old = eqb-true z old q in let r : n ≡ middle = omega (arith, in_three, first-most, middle-most, last-most) in r
      go false false p q = tt

  sliced-true : (u : Option ℕ) → TrueCount u (window l start old)
      → TrueCount (sliced_count old n (first + last) u) (window l (start + offset) n)
  sliced-true None e = tt
  sliced-true (Some z) e = go (recounts old n z)
    where
      go : (t : Bool) → TrueCount (cond t (Some (z - (first + last))) (kept_count z old n)) (window l (start + offset) n)
      go true = let r : z - (first + last) ≡ middle = omega (arith, in_three) in r
      go false = kept-true z e

  never_wrong : (u : Option ℕ) → TrueCount u (window l start old) → recount_valid old n (first + last) u ≡ true
  never_wrong None e = refl
  never_wrong (Some z) e = go (recounts old n z)
    where
      go : (t : Bool) → cond t (leb (first + last) z && leb (z - (first + last)) n) true ≡ true
      go true =
          let p : first + last ≤ z = omega (arith, in_three) in
          let q : z - (first + last) ≤ n = omega (arith, in_three, middle-most) in
          rw (le-leb (first + last) z p, le-leb (z - (first + last)) n q)
      go false = refl

-- ---- slices of masks

-- the flags of a slice are those of its piece
pub slice-flags : (m : Bitmap) (bytes : List ℕ) (offset n : ℕ) → offset + n ≤ m.length
    → mask_flags (sliced_mask m bytes offset n) bytes ≡ window (mask_flags m bytes) offset n
slice-flags m bytes offset n h = sym (in_window (flags_of bytes) m.start m.length offset n h)

pub slice-true : (m : Bitmap) (bytes : List ℕ) (offset n : ℕ) → offset + n ≤ m.length → Truthful m bytes
    → Truthful (sliced_mask m bytes offset n) bytes
unfolding cut_zeros
slice-true m bytes offset n h t = sliced-true (flags_of bytes) m.start m.length offset n h m.unset t

valid-slice : (m : Bitmap) (bytes : List ℕ) (offset n : ℕ) → offset + n ≤ m.length → Truthful m bytes
    → recount_valid m.length n (cut_zeros m bytes offset n) m.unset ≡ true
unfolding cut_zeros
valid-slice m bytes offset n h t = never_wrong (flags_of bytes) m.start m.length offset n h m.unset t

piece-truthful : (m : Bitmap) (bytes : List ℕ) (offset n : ℕ) → first_failed (piece_checks m bytes offset n) ≡ 0 → Truthful m bytes
unfolding piece_checks
piece-truthful m bytes offset n e =
    let six : List Check = check 6 (leb (offset + n) m.length) ∷ [] in
    let rest : List Check = within_limit offset ∷ within_limit n ∷ within_limit (m.start + offset) ∷ six in
    mask-truthful m bytes (both_left (mask_checks m bytes) rest e)

-- check 7 never fails first: if the others pass, the count is true or unknown, so the number is that of the others
pub slice-number : (m : Bitmap) (bytes : List ℕ) (offset n : ℕ)
    → first_failed (piece_checks m bytes offset n) ≡ first_failed (slice_checks m bytes offset n)
unfolding slice_checks
slice-number m bytes offset n = go (first_failed (piece_checks m bytes offset n)) refl
  where
    valid : Bool
    valid = recount_valid m.length n (cut_zeros m bytes offset n) m.unset

    go : (k : ℕ) → k ≡ first_failed (piece_checks m bytes offset n)
        → k ≡ first_failed (piece_checks m bytes offset n ++ (check 7 valid ∷ []))
    go zero e =
        let inside = (piece-allowed m bytes offset n (sym e)).inside in
        ap (λ (t : Bool). cond t 0 7) (sym (valid-slice m bytes offset n inside (piece-truthful m bytes offset n (sym e))))
        ∙ last_made (piece_checks m bytes offset n) 0 6 valid e refl
    go (suc k) e = first-number (piece_checks m bytes offset n) (suc k) 6 valid (piece-before m bytes offset n) e (λ z. omega arith)

-- what a caller learns of an accepted slice
pub slice-allowed : (m : Bitmap) (bytes : List ℕ) (offset n : ℕ) → first_failed (slice_checks m bytes offset n) ≡ 0
    → PieceAllowed m (length bytes) offset n
slice-allowed m bytes offset n e = piece-allowed m bytes offset n (slice-number m bytes offset n ∙ e)

pub slice-accepted : (m : Bitmap) (bytes : List ℕ) (offset n : ℕ)
    → slice_of m bytes offset n ≡ checked (piece_checks m bytes offset n) m (sliced_mask m bytes offset n)
unfolding slice_of
slice-accepted m bytes offset n = ap (λ (k : ℕ). decided k m (sliced_mask m bytes offset n)) (sym (slice-number m bytes offset n))

-- ---- the slice of the whole mask

whole-count : (old : ℕ) (u : Option ℕ) (l : List Bool) → length l ≡ old → TrueCount u l
    → (sliced_count old old 0 u ≡ u) × (recount_valid old old 0 u ≡ true)
unfolding recounts kept_count
whole-count old None l e t = (refl, refl)
whole-count old (Some z) l e t = go (eqb z 0) (eqb z old) refl refl
  where
    fits : z ≤ old
    fits = zeros-most l old z e t

    far : leb old (old + max (old / 5) 32) ≡ true
    far = le-leb old (old + max (old / 5) 32) (omega arith)

    less : z - 0 ≡ z
    less = omega arith

    go : (a b : Bool) → eqb z 0 ≡ a → eqb z old ≡ b
        → (cond (not a && (not b && leb old (old + max (old / 5) 32))) (Some (z - 0)) (cond a (Some 0) (cond b (Some old) None)) ≡ Some z)
        × (cond (not a && (not b && leb old (old + max (old / 5) 32))) (leb 0 z && leb (z - 0) old) true ≡ true)
    go true b p q = (ap Some (sym (eqb-true z 0 p)), refl)
    go false true p q = (ap Some (sym (eqb-true z old q)), refl)
    go false false p q = rw (far, less) (refl, ap₂ ◌&&◌ (le-leb 0 z (omega arith)) (le-leb z old fits))

none-cut : (m : Bitmap) (bytes : List ℕ) → cut_zeros m bytes 0 m.length ≡ 0
unfolding cut_zeros
none-cut m bytes =
    let e : m.length - (0 + m.length) ≡ 0 = omega arith in
    omega (arith, zeros-none bytes m.start 0 refl, zeros-none bytes (m.start + 0 + m.length) (m.length - (0 + m.length)) e)

whole-allowed : (m : Bitmap) (bytes : List ℕ) → first_failed (mask_checks m bytes) ≡ 0 → 0 ≡ first_failed (piece_checks m bytes 0 m.length)
unfolding piece_checks first_failed earlier
whole-allowed m bytes e =
    let a = mask-allowed m bytes e in
    passed-before (mask_checks m bytes)
    (within_limit 0 ∷ within_limit m.length ∷ within_limit (m.start + 0) ∷ check 6 (leb (0 + m.length) m.length) ∷ []) 0 0 (sym e) refl
    (rw (le-leb m.length limit a.short, le-leb (m.start + 0) limit (omega (arith, a.starts)), le-leb (0 + m.length) m.length (omega arith)))

-- a slice of the whole mask returns the mask unchanged
pub slice-whole : (m : Bitmap) (bytes : List ℕ) → first_failed (mask_checks m bytes) ≡ 0 → slice_of m bytes 0 m.length ≡ given m
unfolding slice_of
slice-whole m bytes e =
    let none = none-cut m bytes in
    let long = length-window (flags_of bytes) m.start m.length in
    let known = whole-count m.length m.unset (mask_flags m bytes) long (mask-truthful m bytes e) in
    let s : m.start + 0 ≡ m.start = omega arith in
    let right = slice-right m bytes 0 m.length 0 (whole-allowed m bytes e) m.unset refl
    (sym (ap (λ (x : ℕ). cut_of m.length m.length x m.unset) none
    ∙ ap₂ (λ (b : Bool) (u : Option ℕ). cond b (Ok u) (Err CountNotOfSlice)) known.1 known.0)) in
    sym (ap given right.1 ∙ is-given 0 (first_failed (slice_checks m bytes 0 m.length)) m (sliced_mask m bytes 0 m.length) right.0 refl)
    ∙ ap (λ (x : ℕ). given (mask_under m.serial x m.length m.unset)) s

-- ---- a combination's count

pub result-true : (s : Option Bool) (n : ℕ) (flags : List Bool) → length flags ≡ n → TrueCount (result_count s n) (result_flags s n flags)
result-true (Some false) n flags e = sym (zeros-of-zeros n)
result-true (Some true) n flags e = none_true n (copies n true) (length-copies n true)
result-true None n flags e = none_true n flags e
