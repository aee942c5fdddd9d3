-- One index of masks that may be absent: what follows if the checks pass. For `and_not_at`.
use Rattle.std.specs.Prelude.{Option, Some, None}
use mathlib.Core.Path.{◌≡◌, sym, ◌∙◌, subst}
use mathlib.Core.Bool.{Bool, false}
use mathlib.Core.List.{List, [], ◌∷◌, ◌++◌}
use Prim.Native.Nat.{ℕ, ◌+◌}
use lib.Dec.{ltb}
use lib.ListN.{get_or}
use borrow.Author.Tests.{ltb-true}
use Rattle.words.specs.Flags.{flags_of}
use Rattle.words.proofs.flags.Windows.{at_in}
use Rattle.masks.specs.AtIndex.{and_not_at_checks, index_checks, index_inside, length_checks}
use Rattle.masks.specs.Checks.{first_failed}
use Rattle.masks.specs.Mask.{mask_checks, mask_flags}
use Rattle.masks.specs.Workers.{Indexed}
use Rattle.masks.specs.declared.bitmap.Bitmap.{Bitmap}
use Rattle.masks.proofs.checks.CheckLaws.{both_left, both_right, check-allowed}
use Rattle.masks.proofs.bitmap.MaskLaws.{mask-allowed}

-- the index lies in a mask whose checks have passed
passed-mask : (M : Option Bitmap) (bytes : List ℕ) (i : ℕ) → first_failed (index_checks M bytes i) ≡ 0 → Indexed M i
unfolding index_checks
passed-mask (Some m) bytes i e =
    let span = mask-allowed m bytes (both_left (mask_checks m bytes) (index_inside i m ∷ []) e) in
    let inside = both_right (mask_checks m bytes) (index_inside i m ∷ []) e in
    (span.starts, (span.short, ltb-true i m.length (check-allowed 5 (ltb i m.length) inside)))
passed-mask None bytes i e = tt

-- the index lies in each of two masks whose checks have passed
pub passed-masks : (A : Option Bitmap) (a_bytes : List ℕ) (B : Option Bitmap) (b_bytes : List ℕ) (i : ℕ)
    → first_failed (and_not_at_checks A a_bytes B b_bytes i) ≡ 0 → Indexed A i × Indexed B i
unfolding and_not_at_checks
passed-masks A a_bytes B b_bytes i e =
    let second = both_right (index_checks A a_bytes i) (index_checks B b_bytes i ++ length_checks A B) e in (
      passed-mask A a_bytes i (both_left (index_checks A a_bytes i) (index_checks B b_bytes i ++ length_checks A B) e),
      passed-mask B b_bytes i (both_left (index_checks B b_bytes i) (length_checks A B) second),
    )

present-indexed : (M : Option Bitmap) (m : Bitmap) (i : ℕ) → M ≡ Some m → Indexed M i → Indexed (Some m) i
present-indexed M m i e h = subst (λ (x : Option Bitmap). Indexed x i) e h

-- the flag that is read at start + i is flag i of the mask
pub flag-inside : (M : Option Bitmap) (m : Bitmap) (bytes : List ℕ) (i : ℕ) (x : Bool) → M ≡ Some m → Indexed M i
    → x ≡ get_or (flags_of bytes) (m.start + i) false → x ≡ get_or (mask_flags m bytes) i false
flag-inside M m bytes i x e h read = read ∙ sym (at_in (flags_of bytes) m.start m.length i (present-indexed M m i e h).1.1)
