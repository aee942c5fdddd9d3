-- The calls of `Dispatch` as one equation each: their answers by their checks.
use Rattle.std.specs.Prelude.{ℕ, Bool, List, Option}
use Rattle.masks.specs.declared.bitmap.Bitmap.{Bitmap}
use Rattle.masks.specs.equations.Answer.{Answer, checked}
use Rattle.masks.specs.AtIndex.{and_not_at_checks}
use Rattle.dispatch.specs.Reassign.{reassignable}

-- Checks 1 to 3 of each mask that is present, 5 if both are, and 6: the truck's number is below the length. No checks without a mask.
unfoldable pub may_reassign : Option Bitmap → List ℕ → Option Bitmap → List ℕ → ℕ → Answer (Unit {0}) Bool
may_reassign permission p_bytes revocation r_bytes t =
    checked (and_not_at_checks permission p_bytes revocation r_bytes t) tt (reassignable permission p_bytes revocation r_bytes t)
