-- The calls of `AtIndex` as one equation each: their answers by their checks.
use Rattle.std.specs.Prelude.{ℕ, Bool, List, Option}
use Rattle.masks.specs.equations.Answer.{Answer, checked}
use Rattle.masks.specs.declared.bitmap.Bitmap.{Bitmap}
use Rattle.masks.specs.AtIndex.{and_not_flag, and_not_at_checks}

unfoldable pub and_not_at_of : Option Bitmap → List ℕ → Option Bitmap → List ℕ → ℕ → Answer (Unit {0}) Bool
and_not_at_of first a_bytes second b_bytes i =
    checked (and_not_at_checks first a_bytes second b_bytes i) tt (and_not_flag first a_bytes second b_bytes i)
