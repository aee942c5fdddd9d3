-- The checks of the first mask, of the second and of the place, joined: `two_pieces`.
use mathlib.Core.Path.{refl}
use Rattle.masks.specs.NextAndNot.{next_checks}
use Rattle.masks.proofs.checks.CheckLaws.{one-check, two_pieces}
use Rattle.masks.proofs.next_and_not.check_next.Goals as goal

pub returns : goal.returns
unfolding next_checks
returns c =
    two_pieces _ _ _ _ _ c.earlier-2.ensures.refused c.check_mask.ensures.refused
    (two_pieces _ _ _ _ _ c.earlier.ensures.refused c.check_other-other.ensures (one-check _ _ _ _ c.check-place.ensures.refused refl))
