-- By cases on the mask; each case computes `first_true`.
use Rattle.masks.specs.TrueIdx.{first_true}
use Rattle.masks.proofs.true_idx.first_true.Goals as goal

pub returns-in-Some : goal.returns-in-Some
unfolding first_true
returns-in-Some c = rw c.in-Some.is

pub returns-in-None : goal.returns-in-None
unfolding first_true
returns-in-None c = rw c.in-None.is
