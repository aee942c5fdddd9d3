-- The number of the two checks (`first-number`, `passed-before`), and the bytes of the flags written (`frozen-written`).
use Rattle.masks.specs.Checks.{rank, place_in, output_checks}
use Rattle.masks.specs.Mask.{zeroed_checks}
use mathlib.Core.Path.{refl, ◌∙◌}
use Rattle.std.proofs.Common.{rules}
use Rattle.masks.proofs.bitmap_ops.CombineLaws.{frozen-written}
use Rattle.masks.proofs.checks.CheckLaws.{first-number, passed-before}
use Rattle.masks.proofs.refusal.RefusalLaws.{exit-number, number-ne0}
use Rattle.masks.proofs.bitmap.Bitmap.new_zeroed.Goals as goal

pub returns-in_err-check_limit-clause-refused : goal.returns-in_err-check_limit-clause-refused
unfolding zeroed_checks output_checks rank place_in
returns-in_err-check_limit-clause-refused c =
    exit-number _ _ c.from_residual.ensures.1 ∙ first-number _ _ 8 _ refl c.in_err-check_limit.ensures (number-ne0 _)

pub returns-in_err-check_output-clause-refused : goal.returns-in_err-check_output-clause-refused
unfolding zeroed_checks
returns-in_err-check_output-clause-refused c =
    exit-number _ _ c.from_residual-in_err-check_output.ensures.1
    ∙ passed-before _ _ _ _ c.in_ok-check_limit.ensures refl c.in_err-check_output.ensures.refused

pub returns-clause-refused : goal.returns-clause-refused
unfolding zeroed_checks
returns-clause-refused c = passed-before _ _ _ _ c.in_ok-check_limit.ensures refl c.in_ok-check_output.ensures.refused

pub returns-clause-bytes : goal.returns-clause-bytes
returns-clause-bytes c = frozen-written _ _ _ (search rules) (search rules) c.fill.ensures
