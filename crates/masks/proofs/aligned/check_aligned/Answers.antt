-- The span's checks and, if they pass, that of the address, which comes after them: `first-number`, `passed-before`.
use Rattle.std.proofs.Common.{refl, ◌∙◌}
use Rattle.masks.specs.Checks.{rank, place_in, span_checks}
use Rattle.masks.specs.Checks.{address_checks}
use Rattle.masks.specs.Aligned.{aligned_checks}
use Rattle.masks.proofs.checks.CheckLaws.{first-number, passed-before}
use Rattle.masks.proofs.refusal.RefusalLaws.{number-ne0, exit-number}
use Rattle.masks.proofs.aligned.check_aligned.Goals as goal

pub returns-in_err-check_span : goal.returns-in_err-check_span
unfolding aligned_checks address_checks span_checks rank place_in
returns-in_err-check_span c =
    exit-number _ _ c.from_residual.ensures.1 ∙ first-number _ _ 7 _ refl c.in_err-check_span.ensures.refused (number-ne0 _)

pub returns : goal.returns
unfolding aligned_checks
returns c = passed-before _ _ _ _ c.in_ok-check_span.ensures.refused refl c.check_address.ensures
