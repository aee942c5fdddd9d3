-- `one-check` at number 8.
use Rattle.masks.specs.Checks.{address_checks}
use mathlib.Core.Path.{refl}
use Rattle.masks.proofs.checks.CheckLaws.{one-check}
use Rattle.masks.proofs.checks.check_address.Goals as goal

pub returns : goal.returns
unfolding address_checks
returns c = one-check _ _ _ _ c.check.ensures.refused refl
