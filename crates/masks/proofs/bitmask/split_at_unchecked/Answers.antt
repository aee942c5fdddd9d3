-- If all checks pass, sum and difference fit (`split-allowed`).
use mathlib.Core.Path.{sym}
use native.Mathlib.Omega.{arith}
use Rattle.masks.proofs.bitmask.BitmaskLaws.{split-allowed}
use Rattle.masks.proofs.bitmask.split_at_unchecked.Goals as goal

pub overflow_add-second : goal.overflow_add-second
overflow_add-second c = omega (arith, (split-allowed _ _ _ _ (sym c.in_ok-check_split.ensures)).starts)

pub overflow_sub-rest : goal.overflow_sub-rest
overflow_sub-rest c = (split-allowed _ _ _ _ (sym c.in_ok-check_split.ensures)).reached
