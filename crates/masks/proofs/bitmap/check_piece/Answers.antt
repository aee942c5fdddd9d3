-- The mask's checks, then the four of the piece, in order: `two_pieces`, `check-before` and `one-check`.
use Rattle.masks.specs.Mask.{piece_checks}
use Rattle.masks.proofs.checks.CheckLaws.{two_pieces, check-before, one-check}
use Rattle.masks.proofs.bitmap.check_piece.Goals as goal

pub returns : goal.returns
unfolding piece_checks
returns c =
    two_pieces _ _ _ _ _ c.earlier-3.ensures.refused c.check_mask.ensures.refused
    (two_pieces _ _ _ _ _ c.earlier-piece.ensures.refused c.check_limit-near.ensures
    (two_pieces _ _ _ _ _ c.earlier-2.ensures.refused c.check_limit-short.ensures
    (check-before _ _ _ _ _ _ _ c.earlier.ensures.refused c.check-starts.ensures.refused c.sum_at_most-2.ensures
    (one-check _ _ _ _ c.check-inside.ensures.refused c.sum_at_most.ensures))))
