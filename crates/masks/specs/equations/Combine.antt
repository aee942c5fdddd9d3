-- The calls of `Combine` as one equation each: their answers by their checks, and what lent bytes hold after them.
use Rattle.std.specs.Prelude.{[], ℕ, Bool, length}
use mathlib.Core.List.{List, ◌∷◌}
use Rattle.words.specs.Flags.{over}
use Rattle.words.specs.declared.ops.Op.{Op}
use Rattle.masks.specs.equations.Answer.{Answer, checked, kept}
use Rattle.masks.specs.Checks.{Check, first_failed}
use Rattle.masks.specs.Frozen.{frozen}
use Rattle.masks.specs.Mask.{uncounted}
use Rattle.masks.specs.declared.bitmap.Bitmap.{Bitmap}
use Rattle.masks.specs.Combine.{result_mask, pair_checks, pair_flags, pair_mask, not_checks, not_flags, select_checks, select_flags}
use Rattle.masks.specs.Combine.{select_constant_flags}

unfoldable pub pair_of : Op → Bitmap → List ℕ → Bitmap → List ℕ → List ℕ → Answer (Unit {0}) Bitmap
pair_of op a a_bytes b b_bytes out = checked (pair_checks a a_bytes b b_bytes (length out)) tt (pair_mask op a a_bytes b b_bytes)

unfoldable pub pair_bytes : Op → Bitmap → List ℕ → Bitmap → List ℕ → List ℕ → List ℕ
pair_bytes op a a_bytes b b_bytes out =
    kept (first_failed (pair_checks a a_bytes b b_bytes (length out))) (over out (frozen (pair_flags op a a_bytes b b_bytes))) out

unfoldable pub each_of : List Check → List Bitmap → ℕ → Answer (Unit {0}) Bitmap
each_of cs masks n = checked cs tt (result_mask masks n (uncounted n))

unfoldable pub each_bytes : List Check → List Bool → List ℕ → List ℕ
each_bytes cs flags out = kept (first_failed cs) (over out (frozen flags)) out

abbrev pub not_of : Bitmap → List ℕ → List ℕ → Answer (Unit {0}) Bitmap
not_of m bytes out = each_of (not_checks m bytes (length out)) (m ∷ []) m.length

abbrev pub not_bytes : Bitmap → List ℕ → List ℕ → List ℕ
not_bytes m bytes out = each_bytes (not_checks m bytes (length out)) (not_flags m bytes) out

abbrev pub select_of : Bitmap → List ℕ → Bitmap → List ℕ → Bitmap → List ℕ → List ℕ → Answer (Unit {0}) Bitmap
select_of s s_bytes t t_bytes f f_bytes out = each_of (select_checks s s_bytes t t_bytes f f_bytes (length out)) (s ∷ t ∷ f ∷ []) s.length

abbrev pub select_bytes : Bitmap → List ℕ → Bitmap → List ℕ → Bitmap → List ℕ → List ℕ → List ℕ
select_bytes s s_bytes t t_bytes f f_bytes out =
    each_bytes (select_checks s s_bytes t t_bytes f f_bytes (length out)) (select_flags s s_bytes t t_bytes f f_bytes) out

abbrev pub select_constant_of : Bitmap → List ℕ → Bitmap → List ℕ → Bool → List ℕ → Answer (Unit {0}) Bitmap
select_constant_of s s_bytes t t_bytes x out = each_of (pair_checks s s_bytes t t_bytes (length out)) (s ∷ t ∷ []) s.length

abbrev pub select_constant_bytes : Bitmap → List ℕ → Bitmap → List ℕ → Bool → List ℕ → List ℕ
select_constant_bytes s s_bytes t t_bytes x out =
    each_bytes (pair_checks s s_bytes t t_bytes (length out)) (select_constant_flags s s_bytes t t_bytes x) out
