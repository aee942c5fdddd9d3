-- The checks of each mask and those of two masks, joined by `two_pieces`.
use Rattle.masks.specs.AtIndex.{and_not_at_checks}
use Rattle.masks.proofs.checks.CheckLaws.{two_pieces}
use Rattle.masks.proofs.at_index.check_and_not_at.Goals as goal

pub returns : goal.returns
unfolding and_not_at_checks
returns c =
    two_pieces _ _ _ _ _ c.earlier-2.ensures.refused c.check_index.ensures
    (two_pieces _ _ _ _ _ c.earlier.ensures.refused c.check_index-other.ensures c.check_lengths-lengths.ensures)
