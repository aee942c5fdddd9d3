-- By cases on the mask: the flag of a present one is inside it, by `requires` (`flag-inside`); for none the answer is `absent`.
use Rattle.masks.specs.AtIndex.{flag_or}
use Rattle.masks.proofs.at_index.AtIndexLaws.{flag-inside}
use Rattle.masks.proofs.at_index.flag_or.Goals as goal

pub returns-in-Some : goal.returns-in-Some
unfolding flag_or
returns-in-Some c = rw c.in-Some.is (flag-inside _ _ _ _ _ c.in-Some.is c.requires c.flag_at.ensures)

pub returns-in-None : goal.returns-in-None
unfolding flag_or
returns-in-None c = rw c.in-None.is
