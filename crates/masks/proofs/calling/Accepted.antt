-- For callers in other crates: why a call was accepted. The last premise of each law is what the clause `refused` of the call is at an
-- `Ok`, as a proof cites it after a `?` or in an arm: `c.in_ok-slice.ensures.refused`.
use Rattle.std.specs.Prelude.{Option, Some}
use mathlib.Core.Path.{◌≡◌, sym}
use mathlib.Core.List.{List, ◌∷◌, ◌++◌}
use Prim.Native.Nat.{ℕ, ◌+◌, ◌*◌, ◌/◌, ◌≤◌, ◌<◌}
use lib.Dec.{eqb}
use lib.ListN.{length}
use Rattle.masks.specs.AtIndex.{and_not_at_checks}
use Rattle.masks.specs.Checks.{Check, check, first_failed, output_checks, span_checks, within_limit}
use Rattle.masks.specs.Combine.{not_checks, pair_checks, select_checks}
use Rattle.masks.specs.Mask.{mask_checks, slice_checks, zeroed_checks}
use Rattle.masks.specs.Workers.{PieceAllowed}
use Rattle.masks.specs.declared.bitmap.Bitmap.{Bitmap}
use Rattle.masks.proofs.at_index.AtIndexLaws.{passed-masks}
use Rattle.masks.proofs.bitmap.MaskLaws.{mask-sound}
use Rattle.masks.proofs.bitmap_ops.CombineLaws.{pair_lengths, select_lengths}
use Rattle.masks.proofs.checks.CheckLaws.{SpanAllowed, both_left, both_right, rest-allowed, span-allowed}
use Rattle.masks.proofs.checks.LengthLaws.{output-allowed}
use Rattle.masks.proofs.statements.TrueCounts.{Sound}
use Rattle.masks.proofs.theorems.SliceTruth.{slice-allowed}

-- `try_new` and each call over a bare span: `starts`, `short`, and `inside`, that the span lies in its bytes
pub span_accepted : (start n size : ℕ) → 0 ≡ first_failed (span_checks start n size) → SpanAllowed start n size
span_accepted start n size e = span-allowed start n size (sym e)

-- `unset_bits` and each call whose only checks are those of a mask: `starts`, `short`, `inside`, and `counts`, that its count is unknown
-- or the number of its zeros
pub mask_accepted : (m : Bitmap) (bytes : List ℕ) → 0 ≡ first_failed (mask_checks m bytes) → Sound m bytes
mask_accepted m bytes e = mask-sound m bytes (sym e)

-- `slice`: `starts`, `short`, `lent`, that the mask lies in its bytes, and `inside`, that the piece lies in the mask
pub slice_accepted : (m : Bitmap) (bytes : List ℕ) (offset n : ℕ) → 0 ≡ first_failed (slice_checks m bytes offset n)
    → PieceAllowed m (length bytes) offset n
slice_accepted m bytes offset n e = slice-allowed m bytes offset n (sym e)

-- `new_zeroed`: that the output holds the frozen bytes
pub zeroed_accepted : (n size : ℕ) → 0 ≡ first_failed (zeroed_checks n size) → 8 * ((n + 63) / 64) ≤ size
unfolding zeroed_checks
zeroed_accepted n size e = output-allowed n size (rest-allowed (within_limit n) (output_checks n size) (sym e))

-- `and`, `and_not`, `or`, `or_not`, `xor` and `select_constant`: both masks are sound, their lengths are equal, and the output holds the
-- frozen bytes
pub record PairAccepted (a : Bitmap) (a_bytes : List ℕ) (b : Bitmap) (b_bytes : List ℕ) (size : ℕ) : Type 0 where
  pub first : Sound a a_bytes
  pub second : Sound b b_bytes
  pub equal : a.length ≡ b.length
  pub room : 8 * ((a.length + 63) / 64) ≤ size

pub pair_accepted : (a : Bitmap) (a_bytes : List ℕ) (b : Bitmap) (b_bytes : List ℕ) (size : ℕ)
    → 0 ≡ first_failed (pair_checks a a_bytes b b_bytes size) → PairAccepted a a_bytes b b_bytes size
unfolding pair_checks
pair_accepted a a_bytes b b_bytes size e =
    let rest : List Check = check 5 (eqb a.length b.length) ∷ output_checks a.length size in
    let after = both_right (mask_checks a a_bytes) (mask_checks b b_bytes ++ rest) (sym e) in
    record {
      first = mask-sound a a_bytes (both_left (mask_checks a a_bytes) (mask_checks b b_bytes ++ rest) (sym e));
      second = mask-sound b b_bytes (both_left (mask_checks b b_bytes) rest after);
      equal = pair_lengths a a_bytes b b_bytes size (sym e);
      room = output-allowed a.length size
          (rest-allowed (check 5 (eqb a.length b.length)) (output_checks a.length size) (both_right (mask_checks b b_bytes) rest after));
    }

-- `not`: the mask is sound, and the output holds the frozen bytes
pub not_accepted : (m : Bitmap) (bytes : List ℕ) (size : ℕ) → 0 ≡ first_failed (not_checks m bytes size)
    → Sound m bytes × (8 * ((m.length + 63) / 64) ≤ size)
unfolding not_checks
not_accepted m bytes size e = (
  mask-sound m bytes (both_left (mask_checks m bytes) (output_checks m.length size) (sym e)),
  output-allowed m.length size (both_right (mask_checks m bytes) (output_checks m.length size) (sym e)),
)

-- `select`: the three lengths are equal, and the output holds the frozen bytes
pub record SelectAccepted (s t f : Bitmap) (size : ℕ) : Type 0 where
  pub truthy : s.length ≡ t.length
  pub falsy : s.length ≡ f.length
  pub room : 8 * ((s.length + 63) / 64) ≤ size

pub select_accepted : (s : Bitmap) (s_bytes : List ℕ) (t : Bitmap) (t_bytes : List ℕ) (f : Bitmap) (f_bytes : List ℕ) (size : ℕ)
    → 0 ≡ first_failed (select_checks s s_bytes t t_bytes f f_bytes size) → SelectAccepted s t f size
unfolding select_checks
select_accepted s s_bytes t t_bytes f f_bytes size e =
    let last : List Check = check 5 (eqb s.length f.length) ∷ output_checks s.length size in
    let rest : List Check = check 5 (eqb s.length t.length) ∷ last in
    let third = mask_checks f f_bytes ++ rest in
    let second = mask_checks t t_bytes ++ third in
    let passed = both_right (mask_checks f f_bytes) rest
    (both_right (mask_checks t t_bytes) third (both_right (mask_checks s s_bytes) second (sym e))) in
    let same = select_lengths s s_bytes t t_bytes f f_bytes size (sym e) in
    record {
      truthy = same.0;
      falsy = same.1;
      room = output-allowed s.length size (rest-allowed (check 5 (eqb s.length f.length)) (output_checks s.length size)
          (rest-allowed (check 5 (eqb s.length t.length)) last passed));
    }

-- `and_not_at`, and `may_reassign` of dispatch: the index lies in each mask that is there
pub index_in_first : (a : Bitmap) (a_bytes : List ℕ) (second : Option Bitmap) (b_bytes : List ℕ) (i : ℕ)
    → 0 ≡ first_failed (and_not_at_checks (Some a) a_bytes second b_bytes i) → i < a.length
index_in_first a a_bytes second b_bytes i e = (passed-masks (Some a) a_bytes second b_bytes i (sym e)).0.1.1

pub index_in_second : (first : Option Bitmap) (a_bytes : List ℕ) (b : Bitmap) (b_bytes : List ℕ) (i : ℕ)
    → 0 ≡ first_failed (and_not_at_checks first a_bytes (Some b) b_bytes i) → i < b.length
index_in_second first a_bytes b b_bytes i e = (passed-masks first a_bytes (Some b) b_bytes i (sym e)).1.1.1
