-- With a mask the cursor's checks; without one both limits (`limit-first`) and the place, in order: `passed-before`.
use Rattle.std.proofs.Common.{refl, ◌∙◌}
use Rattle.masks.specs.Checks.{rank, place_in}
use Rattle.masks.specs.TrueIdx.{true_checks}
use Rattle.masks.proofs.checks.CheckLaws.{one-check, passed-before}
use Rattle.masks.proofs.checks.OrderLaws.{limit-first}
use Rattle.masks.proofs.refusal.RefusalLaws.{number-ne0, exit-number}
use Rattle.masks.proofs.true_idx.check_next.Goals as goal

pub returns-then-cursor : goal.returns-then-cursor
unfolding true_checks
returns-then-cursor c = rw c.if-cursor.true c.check_cursor.ensures

pub returns-in_err-check_limit : goal.returns-in_err-check_limit
unfolding true_checks rank place_in
returns-in_err-check_limit c =
    rw c.if-cursor.false (exit-number _ _ c.from_residual.ensures.1 ∙ limit-first _ _ _ refl c.in_err-check_limit.ensures (number-ne0 _))

pub returns-in_err-check_limit-2 : goal.returns-in_err-check_limit-2
unfolding true_checks rank place_in
returns-in_err-check_limit-2 c =
    rw c.if-cursor.false
    (exit-number _ _ c.from_residual-in_err-check_limit-2.ensures.1
    ∙ passed-before _ _ _ _ c.in_ok-check_limit.ensures refl (limit-first _ _ _ refl c.in_err-check_limit-2.ensures (number-ne0 _)))

pub returns : goal.returns
unfolding true_checks
returns c =
    rw c.if-cursor.false
    (passed-before _ _ _ _ c.in_ok-check_limit.ensures refl
    (passed-before _ _ _ _ c.in_ok-check_limit-2.ensures refl (one-check _ _ _ _ c.check.ensures.refused refl)))
