-- `full-adds`: a full adder in each column.
use Rattle.words.proofs.planes.AdderLaws.{full-adds}
use Rattle.words.proofs.planes.full_add.Goals as goal

pub returns : goal.returns
returns c = full-adds _ _ _
