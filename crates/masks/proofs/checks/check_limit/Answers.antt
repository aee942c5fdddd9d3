-- `one-check` at number 1.
use Rattle.masks.proofs.checks.CheckLaws.{one-check}
use Rattle.masks.proofs.checks.check_limit.Goals as goal

pub returns : goal.returns
returns c = one-check _ _ _ _ c.check.ensures.refused c.within_limit.ensures
