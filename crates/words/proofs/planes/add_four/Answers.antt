-- `four-more`: the three full adders, column by column.
use Rattle.words.proofs.planes.AdderLaws.{four-more}
use Rattle.words.proofs.planes.add_four.Goals as goal

pub returns : goal.returns
returns c = four-more _ _ _ _ _ _ _ _ _ c.requires c.full_add-a.ensures c.full_add-b.ensures c.full_add-c.ensures
