-- If a limit is exceeded, it sets the number (`limit-first`); then the check that the piece is inside, in order: `passed-before`.
use Rattle.std.proofs.Common.{refl, ◌∙◌}
use Rattle.masks.specs.Appends.{inner_checks}
use Rattle.masks.specs.Checks.{rank, place_in}
use Rattle.masks.proofs.checks.CheckLaws.{one-check, passed-before}
use Rattle.masks.proofs.checks.OrderLaws.{limit-first}
use Rattle.masks.proofs.refusal.RefusalLaws.{number-ne0, exit-number}
use Rattle.masks.proofs.checks.check_inner.Goals as goal

pub returns-in_err-check_limit : goal.returns-in_err-check_limit
unfolding inner_checks rank place_in
returns-in_err-check_limit c =
    exit-number _ _ c.from_residual.ensures.1 ∙ limit-first _ _ _ refl c.in_err-check_limit.ensures (number-ne0 _)

pub returns-in_err-check_limit-2 : goal.returns-in_err-check_limit-2
unfolding inner_checks rank place_in
returns-in_err-check_limit-2 c =
    exit-number _ _ c.from_residual-in_err-check_limit-2.ensures.1
    ∙ passed-before _ _ _ _ c.in_ok-check_limit.ensures refl (limit-first _ _ _ refl c.in_err-check_limit-2.ensures (number-ne0 _))

pub returns : goal.returns
unfolding inner_checks
returns c =
    passed-before _ _ _ _ c.in_ok-check_limit.ensures refl
    (passed-before _ _ _ _ c.in_ok-check_limit-2.ensures refl (one-check _ _ _ _ c.check.ensures.refused c.sum_at_most.ensures))
