-- The mask's checks and, if they pass, that of the output, which comes after them: `first-number`, `passed-before`.
use Rattle.std.proofs.Common.{refl, ◌∙◌}
use Rattle.masks.specs.Checks.{rank, place_in, span_checks}
use Rattle.masks.specs.Checks.{output_checks}
use Rattle.masks.specs.Combine.{not_checks}
use Rattle.masks.specs.Mask.{mask_checks}
use Rattle.masks.proofs.checks.CheckLaws.{first-number, passed-before}
use Rattle.masks.proofs.refusal.RefusalLaws.{number-ne0, exit-number}
use Rattle.masks.proofs.bitmap_ops.check_not.Goals as goal

pub returns-in_err-check_mask : goal.returns-in_err-check_mask
unfolding not_checks output_checks mask_checks span_checks rank place_in
returns-in_err-check_mask c =
    exit-number _ _ c.from_residual.ensures.1 ∙ first-number _ _ 8 _ refl c.in_err-check_mask.ensures.refused (number-ne0 _)

pub returns : goal.returns
unfolding not_checks
returns c = passed-before _ _ _ _ c.in_ok-check_mask.ensures.refused refl c.check_output.ensures.refused
