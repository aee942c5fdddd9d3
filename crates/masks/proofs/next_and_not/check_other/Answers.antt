-- By cases on the second mask: its checks, then that of its length (`first-number`, `passed-before`), or none if it is absent.
use Rattle.std.proofs.Common.{refl, ◌∙◌}
use Rattle.masks.specs.Checks.{first_failed, rank, place_in, span_checks}
use Rattle.masks.specs.Mask.{mask_checks}
use Rattle.masks.specs.NextAndNot.{other_checks}
use Rattle.masks.proofs.checks.CheckLaws.{first-number, one-check, passed-before}
use Rattle.masks.proofs.refusal.RefusalLaws.{number-ne0, exit-number}
use Rattle.masks.proofs.next_and_not.check_other.Goals as goal

pub returns-in_err-check_mask-in-Some : goal.returns-in_err-check_mask-in-Some
unfolding other_checks mask_checks span_checks rank place_in
returns-in_err-check_mask-in-Some c =
    rw c.in-Some.is
    (exit-number _ _ c.from_residual.ensures.1 ∙ first-number _ _ 4 _ refl c.in_err-check_mask-in-Some.ensures.refused (number-ne0 _))

pub returns-in_ok-check_mask-in-Some : goal.returns-in_ok-check_mask-in-Some
unfolding other_checks
returns-in_ok-check_mask-in-Some c =
    rw c.in-Some.is
    (passed-before _ _ _ _ c.in_ok-check_mask-in-Some.ensures.refused refl (one-check _ _ _ _ c.check.ensures.refused refl))

pub returns-in-None : goal.returns-in-None
unfolding other_checks first_failed
returns-in-None c = rw c.in-None.is
