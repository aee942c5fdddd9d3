-- The grid's checks and, if they pass, that of the output, which comes after them: `first_decide`, `passed-before`.
use Rattle.std.proofs.Common.{refl, ◌∙◌}
use Rattle.masks.specs.Checks.{rank, place_in, span_checks, output_checks}
use Rattle.masks.specs.Mask.{mask_checks}
use Rattle.masks.proofs.checks.CheckLaws.{passed-before}
use Rattle.masks.proofs.refusal.RefusalLaws.{number-ne0, exit-number}
use Rattle.grids.specs.Grid.{grid_checks}
use Rattle.grids.specs.Transpose.{transpose_checks}
use Rattle.grids.proofs.grid.CheckLaws.{first_decide}
use Rattle.grids.proofs.transpose.check_transpose.Goals as goal

pub returns-in_err-check_grid : goal.returns-in_err-check_grid
unfolding transpose_checks grid_checks mask_checks span_checks output_checks rank place_in
returns-in_err-check_grid c =
    exit-number _ _ c.from_residual.ensures.1 ∙ first_decide _ _ _ refl c.in_err-check_grid.ensures.refused (number-ne0 _)

pub returns : goal.returns
unfolding transpose_checks
returns c = passed-before _ _ _ _ c.in_ok-check_grid.ensures.refused refl c.check_output.ensures.refused
