-- The span's checks, the second part's start, and that the cut is inside, in order: `two_pieces` and `one-check`.
use mathlib.Core.Path.{refl}
use Rattle.masks.specs.Bitmask.{split_checks}
use Rattle.masks.proofs.checks.CheckLaws.{two_pieces, one-check}
use Rattle.masks.proofs.bitmask.check_split.Goals as goal

pub returns : goal.returns
unfolding split_checks
returns c =
    two_pieces _ _ _ _ _ c.earlier-2.ensures.refused c.check_span.ensures.refused
    (two_pieces _ _ _ _ _ c.earlier.ensures.refused
    (one-check _ _ _ _ c.check.ensures.refused c.sum_at_most.ensures)
    (one-check _ _ _ _ c.check-2.ensures.refused refl))
