-- The first test is made without a sum, which could overflow: `lies-by`.
use Rattle.words.proofs.short.ShortLaws.{lies-by}
use Rattle.words.proofs.short.lies_near.Goals as goal

pub returns : goal.returns
returns c = lies-by _ _ _
