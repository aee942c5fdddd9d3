-- The grid's checks and, if they pass, that of the places, which comes after them: `first-number`, `passed-before`.
use Rattle.std.proofs.Common.{refl, ◌∙◌}
use Rattle.masks.specs.Checks.{rank, place_in, span_checks}
use Rattle.masks.specs.Mask.{mask_checks}
use Rattle.masks.proofs.checks.CheckLaws.{first-number, one-check, passed-before}
use Rattle.masks.proofs.refusal.RefusalLaws.{number-ne0, exit-number}
use Rattle.grids.specs.Grid.{counts_checks, grid_checks}
use Rattle.grids.proofs.grid.check_counts.Goals as goal

pub returns-in_err-check_grid : goal.returns-in_err-check_grid
unfolding counts_checks grid_checks mask_checks span_checks rank place_in
returns-in_err-check_grid c =
    exit-number _ _ c.from_residual.ensures.1 ∙ first-number _ _ 8 _ refl c.in_err-check_grid.ensures.refused (number-ne0 _)

pub returns : goal.returns
unfolding counts_checks
returns c = passed-before _ _ _ _ c.in_ok-check_grid.ensures.refused refl (one-check _ _ _ _ c.check.ensures.refused refl)
