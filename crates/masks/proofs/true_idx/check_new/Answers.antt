-- By cases on the mask: the checks of `check_stated`, or that of the length if it is absent.
use Rattle.masks.specs.TrueIdx.{new_true_checks}
use Rattle.masks.proofs.true_idx.check_new.Goals as goal

pub returns-in-None : goal.returns-in-None
unfolding new_true_checks
returns-in-None c = rw c.in-None.is c.check_limit.ensures
