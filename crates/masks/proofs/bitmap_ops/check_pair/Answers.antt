-- The checks of two masks, of the lengths and of the output, in order: `two_pieces` and `check-before`.
use Rattle.masks.specs.Combine.{pair_checks}
use mathlib.Core.Path.{refl}
use Rattle.masks.proofs.checks.CheckLaws.{two_pieces, check-before}
use Rattle.masks.proofs.bitmap_ops.check_pair.Goals as goal

pub returns : goal.returns
unfolding pair_checks
returns c =
    two_pieces _ _ _ _ _ c.earlier-3.ensures.refused c.check_mask-first.ensures.refused
    (two_pieces _ _ _ _ _ c.earlier-2.ensures.refused c.check_mask-second.ensures.refused
    (check-before _ _ _ _ _ _ _ c.earlier.ensures.refused c.check-equal.ensures.refused refl
    c.check_output-room.ensures.refused))
