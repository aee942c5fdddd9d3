-- By cases on the mask: its checks, or none if it is absent.
use Rattle.masks.specs.AtIndex.{index_checks}
use Rattle.masks.specs.Checks.{first_failed}
use Rattle.masks.proofs.at_index.check_index.Goals as goal

pub returns-in-Some : goal.returns-in-Some
unfolding index_checks
returns-in-Some c = rw c.in-Some.is c.check_inside.ensures

pub returns-in-None : goal.returns-in-None
unfolding index_checks first_failed
returns-in-None c = rw c.in-None.is
