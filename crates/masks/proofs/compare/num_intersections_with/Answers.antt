-- The checks in three pieces (`two_pieces`); if all pass, the lengths are equal (`common_lengths`), and the ones of the `and` are counted.
use mathlib.Core.Path.{refl, sym, ◌∙◌}
use Rattle.masks.specs.Compare.{common_checks}
use Rattle.masks.proofs.checks.CheckLaws.{two_pieces, one-check}
use Rattle.masks.proofs.compare.CompareLaws.{common-ones, common_lengths}
use Rattle.masks.proofs.refusal.RefusalLaws.{exit-number}
use Rattle.masks.proofs.compare.num_intersections_with.Goals as goal

pub returns-in_err-earlier-clause-refused : goal.returns-in_err-earlier-clause-refused
unfolding common_checks
returns-in_err-earlier-clause-refused c =
    exit-number _ _ c.from_residual.ensures.1
    ∙ two_pieces _ _ _ _ _ c.in_err-earlier.ensures.refused c.check_mask.ensures.refused
    (two_pieces _ _ _ _ _ c.earlier.ensures.refused c.check_mask-second.ensures.refused
    (one-check _ _ _ _ c.check-same.ensures.refused refl))

pub returns-clause-refused : goal.returns-clause-refused
unfolding common_checks
returns-clause-refused c =
    two_pieces _ _ _ _ _ c.in_ok-earlier.ensures.refused c.check_mask.ensures.refused
    (two_pieces _ _ _ _ _ c.earlier.ensures.refused c.check_mask-second.ensures.refused
    (one-check _ _ _ _ c.check-same.ensures.refused refl))

pub returns-clause-number : goal.returns-clause-number
unfolding common_checks
returns-clause-number c =
    let a = c.flags-a.ensures in
    let b = c.flags-b.ensures in
    let number = two_pieces _ _ _ _ _ c.in_ok-earlier.ensures.refused c.check_mask.ensures.refused
    (two_pieces _ _ _ _ _ c.earlier.ensures.refused c.check_mask-second.ensures.refused
    (one-check _ _ _ _ c.check-same.ensures.refused refl)) in
    common-ones _ _ _ _ _ _ _ (common_lengths _ _ _ _ (sym number)) (rw (a.0, a.1, b.0, b.1) at c.count_ones_of.ensures)
