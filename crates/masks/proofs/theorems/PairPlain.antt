-- A combination of two masks, flag by flag: the flag at a position of its result. An accepted combination returns a mask with these
-- flags in the bytes that it writes, whatever the counts of its masks are.
use mathlib.Core.Path.{◌≡◌, sym, ap, ap₂, ◌∙◌}
use mathlib.Core.Bool.{Bool, false, not, ◌&&◌}
use mathlib.Core.List.{List, ◌∷◌, ◌++◌}
use Prim.Native.Nat.{ℕ, ◌+◌, ◌<◌}
use native.Mathlib.Omega.{arith}
use lib.Dec.{eqb}
use lib.ListN.{length, get_or}
use Rattle.words.specs.Flags.{flags_of, over, window}
use Rattle.words.specs.Ops.{op_of}
use Rattle.words.specs.declared.ops.Op.{Op}
use Rattle.words.specs.declared.ops.Op.TheVariants.{AndNot}
use Rattle.words.proofs.ops.Combining.{at-zip-in}
use Rattle.words.proofs.flags.Windows.{at_in, length-window}
use Rattle.masks.specs.Checks.{Check, check, first_failed, output_checks}
use Rattle.masks.specs.Combine.{pair_checks, pair_each, pair_flags, pair_mask, shortcut}
use Rattle.masks.specs.Frozen.{frozen, with_frozen}
use Rattle.masks.specs.Mask.{cut_mask, mask_checks, mask_flags}
use Rattle.masks.proofs.statements.TrueCounts.{Truthful}
use Rattle.masks.specs.declared.bitmap.Bitmap.{Bitmap}
use Rattle.masks.proofs.checks.CheckLaws.{both_right, rest-allowed}
use Rattle.masks.proofs.bitmap_ops.CombineLaws.{pair-counts, pair_lengths}
use Rattle.masks.proofs.builder.FreezeLaws.{frozen-front}
use Rattle.masks.proofs.checks.LengthLaws.{length-zip3, output-allowed}

module _ (a : Bitmap) (a_bytes : List ℕ) (b : Bitmap) (b_bytes : List ℕ) (same : a.length ≡ b.length) where
  -- flag j of the operation, taken flag by flag
  pub at_each : (op : Op) (j : ℕ) → j < a.length
      → get_or (pair_each op a a_bytes b b_bytes) j false
      ≡ op_of op (get_or (mask_flags a a_bytes) j false) (get_or (mask_flags b b_bytes) j false) (get_or (mask_flags b b_bytes) j false)
  at_each op j h =
      let A = flags_of a_bytes in
      let B = flags_of b_bytes in
      let second : get_or B (b.start + j) false ≡ get_or (window B b.start b.length) j false =
      sym (at_in B b.start b.length j (omega arith)) in
      ap (λ (n : ℕ). get_or (pair_each op a a_bytes (cut_mask b b.start n b.unset) b_bytes) j false) (sym same)
      ∙ at-zip-in (op_of op) A B B a.start b.start b.start a.length j h
      ∙ ap₂ (λ (x y : Bool). op_of op x y y) (sym (at_in A a.start a.length j h)) second

  -- `and_not` has no shortcut, so its flags are the operation whatever the counts are
  pub at-and-not : (j : ℕ) → j < a.length
      → get_or (pair_flags AndNot a a_bytes b b_bytes) j false
      ≡ (get_or (mask_flags a a_bytes) j false && not (get_or (mask_flags b b_bytes) j false))
  unfolding pair_flags shortcut
  at-and-not j h = at_each AndNot j h

  pub each-length : (op : Op) → length (pair_each op a a_bytes b b_bytes) ≡ a.length
  each-length op =
      let first = length-window (flags_of a_bytes) a.start a.length in
      let second = length-window (flags_of b_bytes) b.start b.length in
      length-zip3 (op_of op) (mask_flags a a_bytes) (mask_flags b b_bytes) (mask_flags b b_bytes) (first ∙ same ∙ sym second)
      (first ∙ same ∙ sym second) ∙ first

  -- a combination has as many flags as its masks
  pub flags-length : (op : Op) → length (pair_flags op a a_bytes b b_bytes) ≡ a.length
  unfolding pair_flags
  flags-length op = each-length op

-- the mask that an accepted combination returns has the combination's flags in the bytes written
pub written-flags : (op : Op) (a : Bitmap) (a_bytes : List ℕ) (b : Bitmap) (b_bytes out : List ℕ)
    → first_failed (pair_checks a a_bytes b b_bytes (length out)) ≡ 0
    → mask_flags (pair_mask op a a_bytes b b_bytes) (with_frozen out (pair_flags op a a_bytes b b_bytes))
    ≡ pair_flags op a a_bytes b b_bytes
unfolding pair_mask pair_checks
written-flags op a a_bytes b b_bytes out e =
    let rest : List Check = check 5 (eqb a.length b.length) ∷ output_checks a.length (length out) in
    let room = output-allowed a.length (length out) (rest-allowed (check 5 (eqb a.length b.length)) (output_checks a.length (length out))
    (both_right (mask_checks b b_bytes) rest (both_right (mask_checks a a_bytes) (mask_checks b b_bytes ++ rest) e))) in
    let F = pair_flags op a a_bytes b b_bytes in
    let n : length F ≡ a.length = flags-length a a_bytes b b_bytes (pair_lengths a a_bytes b b_bytes (length out) e) op in
    ap (window (flags_of (over out (frozen F))) 0) (sym n) ∙ frozen-front out F (omega arith)

-- the masks of an accepted combination have unknown or true counts
pub pair-truthful : (a : Bitmap) (a_bytes : List ℕ) (b : Bitmap) (b_bytes : List ℕ) (size : ℕ)
    → first_failed (pair_checks a a_bytes b b_bytes size) ≡ 0 → Truthful a a_bytes × Truthful b b_bytes
pair-truthful = pair-counts

-- so an accepted combination writes the operation flag by flag, with a shortcut or without
pub written-each : (op : Op) (a : Bitmap) (a_bytes : List ℕ) (b : Bitmap) (b_bytes out : List ℕ)
    → first_failed (pair_checks a a_bytes b b_bytes (length out)) ≡ 0
    → mask_flags (pair_mask op a a_bytes b b_bytes) (with_frozen out (pair_flags op a a_bytes b b_bytes))
    ≡ pair_each op a a_bytes b b_bytes
unfolding pair_flags
written-each op a a_bytes b b_bytes out e = written-flags op a a_bytes b b_bytes out e
