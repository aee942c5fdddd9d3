-- The calls of `NextAndNot` as one equation each: their answers by their checks.
use Rattle.std.specs.Prelude.{ℕ, List, Option}
use Rattle.masks.specs.equations.Answer.{Answer, checked}
use Rattle.masks.specs.declared.bitmap.Bitmap.{Bitmap}
use Rattle.masks.specs.declared.next_and_not.NextFlag.{NextFlag}
use Rattle.masks.specs.NextAndNot.{free_flags, next_set, next_checks}

unfoldable pub next_and_not_of : Bitmap → List ℕ → Option Bitmap → List ℕ → ℕ → Answer (Unit {0}) NextFlag
next_and_not_of a a_bytes second b_bytes from =
    checked (next_checks a a_bytes second b_bytes from) tt (next_set a.length (free_flags a a_bytes second b_bytes) from)
