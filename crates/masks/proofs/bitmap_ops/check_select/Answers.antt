-- The checks of three masks, of two lengths and of the output, in order: `two_pieces` and `check-before`.
use mathlib.Core.Path.{refl}
use Rattle.masks.specs.Combine.{select_checks}
use Rattle.masks.proofs.checks.CheckLaws.{two_pieces, check-before}
use Rattle.masks.proofs.bitmap_ops.check_select.Goals as goal

pub returns : goal.returns
unfolding select_checks
returns c =
    two_pieces _ _ _ _ _ c.earlier-3.ensures.refused c.check_mask-2.ensures.refused
    (two_pieces _ _ _ _ _ c.earlier-2.ensures.refused c.check_mask-3.ensures.refused
    (two_pieces _ _ _ _ _ c.earlier-masks.ensures.refused c.check_mask.ensures.refused
    (check-before _ _ _ _ _ _ _ c.earlier-lengths.ensures.refused c.check-second.ensures.refused refl
    (check-before _ _ _ _ _ _ _ c.earlier.ensures.refused c.check-third.ensures.refused refl
    c.check_output-room.ensures.refused))))
