-- The calls of `Compare` as one equation each: their answers by their checks.
use Rattle.std.specs.Prelude.{ℕ, Bool}
use mathlib.Core.List.{List, ◌++◌}
use Rattle.words.specs.Counts.{same_flags}
use Rattle.masks.specs.equations.Answer.{Answer, checked}
use Rattle.masks.specs.Mask.{mask_checks, mask_flags}
use Rattle.masks.specs.declared.bitmap.Bitmap.{Bitmap}
use Rattle.masks.specs.Compare.{edges, common_checks, common}

-- the answer of `eq`: whether the lengths and the flags of two masks are equal
unfoldable pub eq_of : Bitmap → List ℕ → Bitmap → List ℕ → Answer (Unit {0}) Bool
eq_of a a_bytes b b_bytes =
    checked (mask_checks a a_bytes ++ mask_checks b b_bytes) tt (same_flags (mask_flags a a_bytes) (mask_flags b b_bytes))

unfoldable pub edges_of : Bitmap → List ℕ → Answer (Unit {0}) ℕ
edges_of m bytes = checked (mask_checks m bytes) tt (edges (mask_flags m bytes))

unfoldable pub common_of : Bitmap → List ℕ → Bitmap → List ℕ → Answer (Unit {0}) ℕ
common_of a a_bytes b b_bytes =
    checked (common_checks a a_bytes b b_bytes) tt (common (mask_flags a a_bytes) (mask_flags b b_bytes))
