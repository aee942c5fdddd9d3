-- By cases on the masks that are present; if both are, the lengths are compared (`one-check`).
use mathlib.Core.Path.{refl}
use Rattle.masks.specs.AtIndex.{length_checks}
use Rattle.masks.specs.Checks.{first_failed}
use Rattle.masks.proofs.checks.CheckLaws.{one-check}
use Rattle.masks.proofs.at_index.check_lengths.Goals as goal

pub returns-in-Some-Some : goal.returns-in-Some-Some
unfolding length_checks
returns-in-Some-Some c = rw (c.in-Some-Some.is-0, c.in-Some-Some.is-1) (one-check _ _ _ _ c.check.ensures.refused refl)

pub returns-in_default : goal.returns-in_default
unfolding length_checks first_failed
returns-in_default c = rw (c.in_default.is-0, c.in_default.is-1)

pub returns-in_default-2 : goal.returns-in_default-2
unfolding length_checks first_failed
returns-in_default-2 c = rw c.in_default.is-0
