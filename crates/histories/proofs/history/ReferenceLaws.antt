-- The reference list's own words agree with the definitions of the contracts: spans, masks, pieces and, if the append is accepted,
-- the flags that it adds.
use Rattle.std.proofs.lemmas.Bool.{and_parts}
use mathlib.Core.Path.{◌≡◌, refl, sym, ap, ap₂, ◌∙◌}
use mathlib.Core.Bool.{Bool, true, false, cond, ◌&&◌}
use mathlib.Core.List.{List, [], ◌∷◌, ◌++◌, flat_map, map, zip, zip_with}
use Prim.Native.Nat.{ℕ, zero, suc, ◌+◌, ◌/◌, ◌^◌, ◌≤◌}
use native.Mathlib.Nat.{div-one}
use native.Mathlib.Numerals.{add-one}
use native.Mathlib.Omega.{arith}
use lib.Dec.{leb, ltb}
use lib.ListN.{length, replicate, take}
use lib.Pow.{shr-shr}
use borrow.Author.Tests.{leb-true, ltb-true}
use Rattle.words.specs.Flags.{bit_at, bits, copies, flag_at, flags_of, window, word_flags}
use Rattle.words.specs.Loops.{stretch}
use Rattle.words.specs.Ops.{zip3}
use Rattle.words.proofs.flags.Bits.{bits-take}
use Rattle.words.proofs.ops.Combining.{else-clear}
use Rattle.words.proofs.theorems.Plain.{at-flags, at-stretch, window-part}
use Rattle.words.proofs.flags.Windows.{at-window, length-window}
use Rattle.masks.specs.equations.Appends.{Append, push_flag, extend_constant, push_word, extend_slice, extend_repeated, extend_bitmap}
use Rattle.masks.specs.equations.Appends.{extend_gather}
use Rattle.masks.specs.Appends.{all_below, gather_checks, gathered, grow_checks}
use Rattle.masks.specs.equations.Appends.{extend_opt_gather, append_checks, append_flags}
use Rattle.masks.specs.Appends.{inner_checks, repeated, span_grow_checks, subslice_checks, word_checks}
use Rattle.masks.specs.Builder.{none_from}
use Rattle.masks.specs.Checks.{Check, check, first_failed, within_limit}
use Rattle.masks.specs.Mask.{mask_checks, mask_flags}
use Rattle.masks.specs.declared.bitmap.Bitmap.{Bitmap}
use Rattle.masks.specs.declared.builder.BitmapBuilder.{BitmapBuilder}
use Rattle.masks.proofs.checks.CheckLaws.{both_left, both_right, check-allowed, rest-allowed}
use Rattle.masks.proofs.builder.RoomLaws.{word-allowed}
use Rattle.histories.specs.ReferenceList.{added, flags_in, up_from, piece, selected, span_flags}

-- ---- spans, masks and pieces

pub span-flags : (bytes : List ℕ) (start n : ℕ) → span_flags bytes start n ≡ stretch bytes start n
unfolding window
span-flags bytes start zero = refl
span-flags bytes start (suc n) = ap₂ (λ (x : Bool) (t : List Bool). x ∷ t) (sym (at-flags bytes start)) (span-flags bytes (suc start) n)

pub mask-flags : (m : Bitmap) (bytes : List ℕ) → flags_in m bytes ≡ mask_flags m bytes
mask-flags m bytes = span-flags bytes m.start m.length

pub mask-piece : (m : Bitmap) (bytes : List ℕ) (offset n : ℕ) → offset + n ≤ m.length
    → piece offset n (mask_flags m bytes) ≡ window (mask_flags m bytes) offset n
mask-piece m bytes offset n h =
    sym (window-part (mask_flags m bytes) offset n (omega (arith, length-window (flags_of bytes) m.start m.length)))

-- ---- words, copies, repeats

bits-from : (d w k : ℕ) → bits d (w / 2 ^ k) ≡ map (bit_at w) (up_from k d)
unfolding bits
bits-from zero w k = refl
bits-from (suc d) w k =
    ap (λ (t : List Bool). bit_at w k ∷ t)
    (ap (bits d) (shr-shr w k 1 ∙ ap (λ (x : ℕ). w / 2 ^ x) (add-one k)) ∙ bits-from d w (suc k))

word_flags_lem : (w n : ℕ) → n ≤ 64 → map (bit_at w) (up_from 0 n) ≡ take n (word_flags w)
word_flags_lem w n h = sym (bits-from n w 0) ∙ ap (bits n) (div-one w) ∙ sym (bits-take 64 n w h)

copies-same : (n : ℕ) (x : Bool) → replicate n x ≡ copies n x
unfolding copies
copies-same zero x = refl
copies-same (suc n) x = ap (λ (t : List Bool). x ∷ t) (copies-same n x)

repeated-same : (k : ℕ) (l : List Bool) → flat_map (λ (x : Bool). replicate k x) l ≡ repeated k l
unfolding repeated flat_map
repeated-same k [] = refl
repeated-same k (x ∷ l) = ap₂ (λ (s t : List Bool). s ++ t) (copies-same k x) (repeated-same k l)

-- ---- gathers

strict_same : (bytes : List ℕ) (start n : ℕ) (idxs : List ℕ) → all_below n idxs ≡ true
    → map (λ (i : ℕ). flag_at bytes (start + i)) idxs ≡ gathered (stretch bytes start n) idxs
unfolding gathered all_below
strict_same bytes start n [] e = refl
strict_same bytes start n (i ∷ idxs) e =
    ap₂ (λ (x : Bool) (t : List Bool). x ∷ t) (sym (at-stretch bytes start n i (ltb-true i n (and_parts _ _ e).0)))
    (strict_same bytes start n idxs (and_parts _ _ e).1)

optional-same : (bytes : List ℕ) (start n : ℕ) (idxs : List ℕ)
    → map (λ (i : ℕ). cond (ltb i n) (flag_at bytes (start + i)) false) idxs ≡ gathered (stretch bytes start n) idxs
unfolding gathered
optional-same bytes start n [] = refl
optional-same bytes start n (i ∷ idxs) =
    ap₂ (λ (x : Bool) (t : List Bool). x ∷ t)
    (sym (else-clear (ltb i n) (flag_at bytes (start + i))) ∙ ap (λ (x : Bool). ltb i n && x) (sym (at-flags bytes (start + i)))
    ∙ sym (at-window (flags_of bytes) start n i))
    (optional-same bytes start n idxs)

-- ---- what an accepted append adds

inner-allowed : (offset n whole : ℕ) → first_failed (inner_checks offset n whole) ≡ 0 → offset + n ≤ whole
unfolding inner_checks
inner-allowed offset n whole e =
    let six : List Check = check 6 (leb (offset + n) whole) ∷ [] in
    leb-true (offset + n) whole (check-allowed 5 (leb (offset + n) whole)
    (rest-allowed (within_limit n) six (rest-allowed (within_limit offset) (within_limit n ∷ six) e)))

pub added-same : (a : Append) (b : BitmapBuilder) (buf : List ℕ) → first_failed (append_checks a b buf) ≡ 0 → added a ≡ append_flags a
unfolding word_checks subslice_checks gather_checks
added-same (push_flag x) b buf e = refl
added-same (extend_constant n x) b buf e = copies-same n x
added-same (push_word w n) b buf e =
    word_flags_lem w n
    (word-allowed w n (both_right (grow_checks b n (length buf)) (within_limit n ∷ check 6 (leb n 64 && none_from w n) ∷ []) e))
added-same (extend_slice bytes start n) b buf e = span-flags bytes start n
added-same (extend_repeated bytes start n k) b buf e =
    ap (flat_map (λ (x : Bool). replicate k x)) (span-flags bytes start n) ∙ repeated-same k (stretch bytes start n)
added-same (extend_bitmap m bytes offset n) b buf e =
    let grown = grow_checks b n (length buf) in
    let inner = both_left (inner_checks offset n m.length) grown
    (both_right (mask_checks m bytes) (inner_checks offset n m.length ++ grown) e) in
    ap (piece offset n) (mask-flags m bytes) ∙ mask-piece m bytes offset n (inner-allowed offset n m.length inner)
added-same (extend_gather bytes start n idxs) b buf e =
    strict_same bytes start n idxs
    (check-allowed 5 (all_below n idxs)
    (both_right (span_grow_checks b buf bytes start n (length idxs)) (check 6 (all_below n idxs) ∷ []) e))
added-same (extend_opt_gather bytes start n idxs) b buf e = optional-same bytes start n idxs

-- ---- `select`

pub selected-same : (s t f : List Bool) → selected s t f ≡ zip3 cond s t f
unfolding zip zip_with zip3
selected-same [] t f = refl
selected-same (x ∷ s) [] f = refl
selected-same (x ∷ s) (y ∷ t) [] = refl
selected-same (x ∷ s) (y ∷ t) (z ∷ f) = ap (λ (l : List Bool). cond x y z ∷ l) (selected-same s t f)
