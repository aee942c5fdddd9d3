-- The rows of masks are lawful: `slice`, `unset_bits` and the eight combinations.
use Rattle.std.specs.Prelude.{Some}
use Rattle.std.proofs.lemmas.List.{length-map}
use mathlib.Core.Path.{◌≡◌, refl, sym, ap₂, ◌∙◌, subst}
use mathlib.Core.Bool.{Bool, true, false, cond, xor as exclusive, not}
use mathlib.Core.List.{List, [], ◌∷◌, ◌++◌, zip_with}
use Prim.Native.Nat.{ℕ, zero, suc, ◌+◌, ◌*◌, ◌/◌, ◌≤◌}
use native.Mathlib.Omega.{arith}
use lib.Dec.{leb, eqb}
use lib.ListN.{length}
use borrow.Author.Tests.{leb-true}
use Rattle.words.specs.Flags.{flags_of}
use Rattle.words.specs.Ops.{op_of, zip3}
use Rattle.words.specs.declared.ops.Op.{Op}
use Rattle.words.proofs.flags.Windows.{length-window}
use Rattle.masks.specs.declared.bitmap.Recounted.{Recounted}
use Rattle.masks.specs.equations.Answer.{given, refused, checked, decided}
use Rattle.masks.specs.Checks.{Check, check, first_failed, limit, output_checks, within_limit}
use Rattle.masks.specs.Combine.{not_checks, not_flags, pair_checks, pair_each, pair_flags, pair_mask}
use Rattle.masks.specs.equations.Combine.{each_bytes, each_of, pair_bytes}
use Rattle.masks.specs.Combine.{pair_shortcut, result_count, select_checks, select_constant_flags, select_flags}
use Rattle.masks.specs.equations.Combine.{pair_of}
use Rattle.masks.specs.Mask.{mask_checks, mask_flags, piece_checks, sliced_mask, uncounted, with_count, zero_count}
use Rattle.masks.specs.equations.Mask.{slice_of, unset_bits_of}
use Rattle.masks.proofs.statements.TrueCounts.{Sound, TrueCount}
use Rattle.masks.specs.declared.bitmap.Bitmap.{Bitmap}
use Rattle.masks.proofs.refusal.AnswerLaws.{given-number, given-value, refused-state}
use Rattle.masks.proofs.checks.CheckLaws.{both_left, both_right, first-allowed, rest-allowed}
use Rattle.masks.proofs.bitmap_ops.CombineLaws.{pair_lengths, select_lengths}
use Rattle.masks.proofs.checks.LengthLaws.{length-zip2, length-zip3, output-allowed}
use Rattle.masks.proofs.bitmap.MaskLaws.{mask-allowed, mask-truthful, piece-allowed}
use Rattle.masks.proofs.theorems.PairPlain.{each-length, flags-length, pair-truthful}
use Rattle.masks.proofs.theorems.SliceTruth.{none_true, result-true, slice-accepted, slice-flags, slice-true}
use Rattle.masks.proofs.theorems.ShortcutsUnseen.{flags-by_operation}
use Rattle.histories.specs.MaskRows.{Combination, pair, invert, select, select_constant, MaskCall, slice, unset_bits, combine}
use Rattle.histories.specs.MaskRows.{combination_row, constant_row, count_row, mask_call, not_row}
use Rattle.histories.specs.MaskRows.{pair_op, pair_row, recounted, select_row, slice_row}
use Rattle.histories.proofs.statements.Owed.{Honest, Lawful, LawfulKeeps, LawfulWrites, Stands, lent_flags}
use Rattle.histories.specs.ReferenceList.{Pair, and, and_not, or, or_not, xor}
use Rattle.histories.specs.ReferenceList.{flag_by_flag, inverted, pair_flag, piece, selected, selected_or}
use Rattle.histories.specs.Rows.{Every, Lent, one, two, three}
use Rattle.histories.proofs.history.ReferenceLaws.{mask-piece, selected-same}
use Rattle.histories.proofs.rows.RowLaws.{Writable, written_stands}

-- ---- slices and counts

piece-starts : (m : Bitmap) (bytes : List ℕ) (offset n : ℕ) → first_failed (piece_checks m bytes offset n) ≡ 0 → m.start + offset ≤ limit
unfolding piece_checks
piece-starts m bytes offset n e =
    let six : List Check = check 6 (leb (offset + n) m.length) ∷ [] in
    let rest : List Check = within_limit offset ∷ within_limit n ∷ within_limit (m.start + offset) ∷ six in
    leb-true (m.start + offset) limit (first-allowed 0 (leb (m.start + offset) limit) six
    (rest-allowed (within_limit n) (within_limit (m.start + offset) ∷ six)
    (rest-allowed (within_limit offset) (within_limit n ∷ within_limit (m.start + offset) ∷ six)
    (both_right (mask_checks m bytes) rest e))))

slice-stands : (m : Bitmap) (bytes : List ℕ) (offset n : ℕ) → first_failed (piece_checks m bytes offset n) ≡ 0 → Sound m bytes
    → Stands (sliced_mask m bytes offset n) bytes (piece offset n (mask_flags m bytes))
slice-stands m bytes offset n e s =
    let inside : offset + n ≤ m.length = (piece-allowed m bytes offset n e).inside in
    record {
      sound = record {
        starts = piece-starts m bytes offset n e;
        short = omega (arith, s.short);
        inside = omega (arith, s.inside);
        counts = slice-true m bytes offset n inside s.counts;
      };
      flags = slice-flags m bytes offset n inside ∙ sym (mask-piece m bytes offset n inside);
    }

slice-made : (offset n : ℕ) (m : Bitmap) (bytes : List ℕ) → Sound m bytes → (g : Bitmap) → slice_of m bytes offset n ≡ given g
    → Stands g bytes (piece offset n (mask_flags m bytes))
slice-made offset n m bytes s g e =
    let k = first_failed (piece_checks m bytes offset n) in
    let e' : given g ≡ decided k m (sliced_mask m bytes offset n) = sym e ∙ slice-accepted m bytes offset n in
    subst (λ (x : Bitmap). Stands x bytes (piece offset n (mask_flags m bytes))) (sym (given-value k m g (sliced_mask m bytes offset n) e'))
    (slice-stands m bytes offset n (sym (given-number k m g (sliced_mask m bytes offset n) e')) s)

slice-left : (offset n : ℕ) (m : Bitmap) (bytes : List ℕ) (k : ℕ) (g : Bitmap) → slice_of m bytes offset n ≡ refused k g → g ≡ m
unfolding slice_of
slice-left offset n m bytes k g e = refused-state k _ g m (sliced_mask m bytes offset n) (sym e)

pub slice_lawful : (offset n : ℕ) → LawfulKeeps (slice_row offset n)
slice_lawful offset n = record { made = slice-made offset n; left = slice-left offset n }

count-stands : (m : Bitmap) (bytes : List ℕ) → Sound m bytes
    → Stands (with_count m (Some (zero_count m bytes))) bytes (mask_flags m bytes)
unfolding zero_count
count-stands m bytes s =
    record {
      sound = record { starts = s.starts; short = s.short; inside = s.inside; counts = refl };
      flags = refl;
    }

recounted-is : (k : ℕ) (m : Bitmap) (r : Recounted) → recounted (decided k m r) ≡ decided k m r.mask
unfolding decided
recounted-is zero m r = refl
recounted-is (suc k) m r = refl

count-answer : (m : Bitmap) (bytes : List ℕ)
    → recounted (unset_bits_of m bytes) ≡ decided (first_failed (mask_checks m bytes)) m
    (with_count m (Some (zero_count m bytes)))
unfolding unset_bits_of
count-answer m bytes = recounted-is (first_failed (mask_checks m bytes)) m _

count_made : (m : Bitmap) (bytes : List ℕ) → Sound m bytes → (g : Bitmap) → recounted (unset_bits_of m bytes) ≡ given g
    → Stands g bytes (mask_flags m bytes)
count_made m bytes s g e =
    let r = with_count m (Some (zero_count m bytes)) in
    let same : g ≡ r = given-value (first_failed (mask_checks m bytes)) m g r (sym e ∙ count-answer m bytes) in
    subst (λ (x : Bitmap). Stands x bytes (mask_flags m bytes)) (sym same) (count-stands m bytes s)

count_left : (m : Bitmap) (bytes : List ℕ) (k : ℕ) (g : Bitmap) → recounted (unset_bits_of m bytes) ≡ refused k g → g ≡ m
count_left m bytes k g e =
    let r = with_count m (Some (zero_count m bytes)) in
    refused-state k (first_failed (mask_checks m bytes)) g m r (sym e ∙ count-answer m bytes)

pub count_lawful : LawfulKeeps count_row
count_lawful = record { made = count_made; left = count_left }

-- ---- the masks of an accepted combination have unknown or true counts

passed : (cs : List Check) (m g : Bitmap) → checked cs (tt {0}) m ≡ given g → first_failed cs ≡ 0
passed cs m g e = sym (given-number (first_failed cs) tt g m (sym e))

one-honest : (x : Lent) (size : ℕ) → first_failed (not_checks x.mask x.bytes size) ≡ 0 → Every Honest 1 (one x)
unfolding not_checks
one-honest x size e =
    (mask-truthful x.mask x.bytes (both_left (mask_checks x.mask x.bytes) (output_checks x.mask.length size) e), tt)

two-honest : (x y : Lent) (size : ℕ) → first_failed (pair_checks x.mask x.bytes y.mask y.bytes size) ≡ 0
    → Every Honest 2 (two x y)
two-honest x y size e = let t = pair-truthful x.mask x.bytes y.mask y.bytes size e in (t.0, (t.1, tt))

three-honest : (x y z : Lent) (size : ℕ)
    → first_failed (select_checks x.mask x.bytes y.mask y.bytes z.mask z.bytes size) ≡ 0 → Every Honest 3 (three x y z)
unfolding select_checks
three-honest x y z size e =
    let first = mask_checks x.mask x.bytes in
    let second = mask_checks y.mask y.bytes in
    let third = mask_checks z.mask z.bytes in
    let five : List Check = check 5 (eqb x.mask.length z.mask.length) ∷ output_checks x.mask.length size in
    let rest : List Check = check 5 (eqb x.mask.length y.mask.length) ∷ five in
    let later = both_right first (second ++ (third ++ rest)) e in (
      mask-truthful x.mask x.bytes (both_left first (second ++ (third ++ rest)) e),
      (
        mask-truthful y.mask y.bytes (both_left second (third ++ rest) later),
        (mask-truthful z.mask z.bytes (both_left third rest (both_right second (third ++ rest) later)), tt),
      ),
    )

-- ---- two masks

-- the five operations of the contracts are, flag by flag, those of the reference list
same_flag : (op : Pair) (x y : Bool) → op_of (pair_op op) x y y ≡ pair_flag op x y
unfolding exclusive
same_flag and x y = refl
same_flag and_not x y = refl
same_flag or x y = refl
same_flag or_not x y = refl
same_flag xor true true = refl
same_flag xor true false = refl
same_flag xor false true = refl
same_flag xor false false = refl

by_flag : (op : Pair) (a b : List Bool) → length a ≡ length b → zip3 (op_of (pair_op op)) a b b ≡ zip_with (pair_flag op) a b
unfolding zip3 zip_with
by_flag op [] b e = refl
by_flag op (x ∷ a) [] e = refl
by_flag op (x ∷ a) (y ∷ b) e = ap₂ (λ (z : Bool) (t : List Bool). z ∷ t) (same_flag op x y) (by_flag op a b (omega arith))

module _ (op : Op) (a : Bitmap) (a_b : List ℕ) (b : Bitmap) (b_b : List ℕ) (e : a.length ≡ b.length) where
  pub pair-long : length (pair_flags op a a_b b b_b) ≡ a.length
  pair-long = flags-length a a_b b b_b e op

  pub pair-true : TrueCount (result_count (pair_shortcut op a a_b b b_b) a.length) (pair_flags op a a_b b b_b)
  unfolding pair_flags
  pair-true =
      rw (flags-by_operation op a a_b b b_b e)
      at (result-true (pair_shortcut op a a_b b b_b) a.length (pair_each op a a_b b b_b) (each-length a a_b b b_b e op))

-- if the checks of two masks pass, the first's length is within the limit and its frozen bytes fit the output
two-room : (a : Bitmap) (a_b : List ℕ) (b : Bitmap) (b_b out : List ℕ) → first_failed (pair_checks a a_b b b_b (length out)) ≡ 0
    → (a.length ≤ limit) × (8 * ((a.length + 63) / 64) ≤ length out)
unfolding pair_checks
two-room a a_b b b_b out e =
    let rest : List Check = check 5 (eqb a.length b.length) ∷ output_checks a.length (length out) in (
      (mask-allowed a a_b (both_left (mask_checks a a_b) (mask_checks b b_b ++ rest) e)).short,
      output-allowed a.length (length out) (rest-allowed (check 5 (eqb a.length b.length)) (output_checks a.length (length out))
          (both_right (mask_checks b b_b) rest (both_right (mask_checks a a_b) (mask_checks b b_b ++ rest) e))),
    )

pub pair_writable : (op : Pair) (x y : Lent) (out : List ℕ)
    → first_failed (pair_checks x.mask x.bytes y.mask y.bytes (length out)) ≡ 0
    → Writable x.mask.length (result_count (pair_shortcut (pair_op op) x.mask x.bytes y.mask y.bytes) x.mask.length)
    (pair_flags (pair_op op) x.mask x.bytes y.mask y.bytes) (flag_by_flag op (lent_flags x) (lent_flags y)) out
unfolding pair_flags
pair_writable op x y out e =
    let a = x.mask in
    let b = y.mask in
    let a_b = x.bytes in
    let b_b = y.bytes in
    let same : a.length ≡ b.length = pair_lengths a a_b b b_b (length out) e in
    let even = length-window (flags_of a_b) a.start a.length ∙ same ∙ sym (length-window (flags_of b_b) b.start b.length) in
    let honest = two-honest x y (length out) e in
    record {
      long = pair-long (pair_op op) a a_b b b_b same;
      short = (two-room a a_b b b_b out e).0;
      room = (two-room a a_b b b_b out e).1;
      same = by_flag op (mask_flags a a_b) (mask_flags b b_b) even;
      counts = pair-true (pair_op op) a a_b b b_b same;
    }

pub pair_lawful : (op : Pair) (out : List ℕ) → LawfulWrites (pair_row op out)
unfolding pair_of pair_bytes pair_mask
pair_lawful op out =
    record {
      honest = λ a g e. two-honest a.0 a.1.0 (length out) (passed _ _ g e);
      made = λ a g e. written_stands _ _ _ _ _ _ out g e (pair_writable op a.0 a.1.0 out);
    }

-- ---- combinations with no shortcut: their count is unknown, except 0 for no flags

pub not_writable : (x : Lent) (out : List ℕ) → first_failed (not_checks x.mask x.bytes (length out)) ≡ 0
    → Writable x.mask.length (uncounted x.mask.length) (not_flags x.mask x.bytes) (inverted (lent_flags x)) out
unfolding not_checks
not_writable x out e =
    let a = x.mask in
    let a_b = x.bytes in
    let long = length-map (mask_flags a a_b) not ∙ length-window (flags_of a_b) a.start a.length in
    record {
      long = long;
      short = (mask-allowed a a_b (both_left (mask_checks a a_b) (output_checks a.length (length out)) e)).short;
      room = output-allowed a.length (length out) (both_right (mask_checks a a_b) (output_checks a.length (length out)) e);
      same = refl;
      counts = none_true a.length (not_flags a a_b) long;
    }

pub not_lawful : (out : List ℕ) → LawfulWrites (not_row out)
unfolding each_of each_bytes
not_lawful out =
    record {
      honest = λ a g e. one-honest a.0 (length out) (passed _ _ g e);
      made = λ a g e. written_stands _ _ _ _ _ _ out g e (not_writable a.0 out);
    }

pub select_writable : (x y z : Lent) (out : List ℕ)
    → first_failed (select_checks x.mask x.bytes y.mask y.bytes z.mask z.bytes (length out)) ≡ 0
    → Writable x.mask.length (uncounted x.mask.length) (select_flags x.mask x.bytes y.mask y.bytes z.mask z.bytes)
    (selected (lent_flags x) (lent_flags y) (lent_flags z)) out
unfolding select_checks
select_writable x y z out e =
    let a = x.mask in
    let b = y.mask in
    let c = z.mask in
    let a_b = x.bytes in
    let b_b = y.bytes in
    let c_b = z.bytes in
    let same = select_lengths a a_b b b_b c c_b (length out) e in
    let first = length-window (flags_of a_b) a.start a.length in
    let second = length-window (flags_of b_b) b.start b.length in
    let third = length-window (flags_of c_b) c.start c.length in
    let five : List Check = check 5 (eqb a.length c.length) ∷ output_checks a.length (length out) in
    let rest : List Check = check 5 (eqb a.length b.length) ∷ five in
    let all = both_right (mask_checks c c_b) rest (both_right (mask_checks b b_b) (mask_checks c c_b ++ rest)
    (both_right (mask_checks a a_b) (mask_checks b b_b ++ (mask_checks c c_b ++ rest)) e)) in
    let even = first ∙ same.0 ∙ sym second in
    let even' = first ∙ same.1 ∙ sym third in
    let long = length-zip3 cond (mask_flags a a_b) (mask_flags b b_b) (mask_flags c c_b) even even' ∙ first in
    record {
      long = long;
      short = (mask-allowed a a_b (both_left (mask_checks a a_b) (mask_checks b b_b ++ (mask_checks c c_b ++ rest)) e)).short;
      room = output-allowed a.length (length out) (rest-allowed (check 5 (eqb a.length c.length))
          (output_checks a.length (length out)) (rest-allowed (check 5 (eqb a.length b.length)) five all));
      same = sym (selected-same (mask_flags a a_b) (mask_flags b b_b) (mask_flags c c_b));
      counts = none_true a.length (select_flags a a_b b b_b c c_b) long;
    }

pub select_lawful : (out : List ℕ) → LawfulWrites (select_row out)
unfolding each_of each_bytes
select_lawful out =
    record {
      honest = λ a g e. three-honest a.0 a.1.0 a.1.1.0 (length out) (passed _ _ g e);
      made = λ a g e. written_stands _ _ _ _ _ _ out g e (select_writable a.0 a.1.0 a.1.1.0 out);
    }

pub constant_writable : (c : Bool) (x y : Lent) (out : List ℕ)
    → first_failed (pair_checks x.mask x.bytes y.mask y.bytes (length out)) ≡ 0
    → Writable x.mask.length (uncounted x.mask.length) (select_constant_flags x.mask x.bytes y.mask y.bytes c)
    (selected_or c (lent_flags x) (lent_flags y)) out
constant_writable c x y out e =
    let a = x.mask in
    let b = y.mask in
    let a_b = x.bytes in
    let b_b = y.bytes in
    let same : a.length ≡ b.length = pair_lengths a a_b b b_b (length out) e in
    let first = length-window (flags_of a_b) a.start a.length in
    let second = length-window (flags_of b_b) b.start b.length in
    let long = length-zip2 (λ p q. cond p q c) (mask_flags a a_b) (mask_flags b b_b) (first ∙ same ∙ sym second) ∙ first in
    record {
      long = long;
      short = (two-room a a_b b b_b out e).0;
      room = (two-room a a_b b b_b out e).1;
      same = refl;
      counts = none_true a.length (select_constant_flags a a_b b b_b c) long;
    }

pub constant_lawful : (c : Bool) (out : List ℕ) → LawfulWrites (constant_row c out)
unfolding each_of each_bytes
constant_lawful c out =
    record {
      honest = λ a g e. two-honest a.0 a.1.0 (length out) (passed _ _ g e);
      made = λ a g e. written_stands _ _ _ _ _ _ out g e (constant_writable c a.0 a.1.0 out);
    }

-- ---- the table

pub combination_lawful : (c : Combination) (out : List ℕ) → LawfulWrites (combination_row c out)
combination_lawful (pair op) out = pair_lawful op out
combination_lawful invert out = not_lawful out
combination_lawful select out = select_lawful out
combination_lawful (select_constant x) out = constant_lawful x out

pub masks_lawful : (c : MaskCall) → Lawful (mask_call c)
masks_lawful (slice offset n) = slice_lawful offset n
masks_lawful unset_bits = count_lawful
masks_lawful (combine c out a) = combination_lawful c out
