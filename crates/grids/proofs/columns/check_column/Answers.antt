-- The checks are made in their order: `first_decide` at the exit of one that fails, `passed-before` after one that passes.
use Rattle.std.proofs.Common.{refl, ◌∙◌, [], ◌∷◌}
use Rattle.masks.specs.Checks.{rank, place_in, span_checks, output_checks}
use Rattle.masks.specs.Mask.{mask_checks}
use Rattle.masks.proofs.checks.CheckLaws.{one-check, passed-before}
use Rattle.masks.proofs.refusal.RefusalLaws.{number-ne0, exit-number}
use Rattle.grids.specs.Columns.{column_checks}
use Rattle.grids.specs.Grid.{grid_checks}
use Rattle.grids.proofs.grid.CheckLaws.{first_decide}
use Rattle.grids.proofs.columns.check_column.Goals as goal

pub returns-in_err-check_grid : goal.returns-in_err-check_grid
unfolding column_checks grid_checks mask_checks span_checks output_checks rank place_in
returns-in_err-check_grid c =
    exit-number _ _ c.from_residual.ensures.1 ∙ first_decide _ _ _ refl c.in_err-check_grid.ensures.refused (number-ne0 _)

pub returns-in_err-check : goal.returns-in_err-check
unfolding column_checks output_checks rank place_in
returns-in_err-check c =
    exit-number _ _ c.from_residual-in_err-check.ensures.1
    ∙ passed-before _ _ _ _ c.in_ok-check_grid.ensures.refused refl
    (first_decide (_ ∷ []) _ _ refl (one-check _ _ _ _ c.in_err-check.ensures.refused refl) (number-ne0 _))

pub returns : goal.returns
unfolding column_checks
returns c =
    passed-before _ _ _ _ c.in_ok-check_grid.ensures.refused refl
    (passed-before (_ ∷ []) _ _ _ (one-check _ _ _ _ c.in_ok-check.ensures.refused refl) refl c.check_output.ensures.refused)
