-- The stated length (`limit-first`), the mask's checks, and that the lengths agree, in order: `first-number`, `passed-before`.
use Rattle.std.proofs.Common.{refl, ◌∙◌}
use Rattle.masks.specs.Checks.{rank, place_in, span_checks}
use Rattle.masks.specs.Mask.{mask_checks}
use Rattle.masks.specs.TrueIdx.{new_true_checks}
use Rattle.masks.proofs.checks.CheckLaws.{first-number, one-check, passed-before}
use Rattle.masks.proofs.checks.OrderLaws.{limit-first}
use Rattle.masks.proofs.refusal.RefusalLaws.{number-ne0, exit-number}
use Rattle.masks.proofs.true_idx.check_stated.Goals as goal

pub returns-in_err-check_limit : goal.returns-in_err-check_limit
unfolding new_true_checks mask_checks span_checks rank place_in
returns-in_err-check_limit c =
    exit-number _ _ c.from_residual.ensures.1 ∙ limit-first _ _ _ refl c.in_err-check_limit.ensures (number-ne0 _)

pub returns-in_err-check_mask : goal.returns-in_err-check_mask
unfolding new_true_checks mask_checks span_checks rank place_in
returns-in_err-check_mask c =
    exit-number _ _ c.from_residual-in_err-check_mask.ensures.1
    ∙ passed-before _ _ _ _ c.in_ok-check_limit.ensures refl (first-number _ _ 4 _ refl c.in_err-check_mask.ensures.refused (number-ne0 _))

pub returns : goal.returns
unfolding new_true_checks
returns c =
    passed-before _ _ _ _ c.in_ok-check_limit.ensures refl
    (passed-before _ _ _ _ c.in_ok-check_mask.ensures.refused refl (one-check _ _ _ _ c.check.ensures.refused refl))
