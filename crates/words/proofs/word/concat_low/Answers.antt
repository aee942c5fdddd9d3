-- Below 64 the low flags and the shifted ones do not overlap (`concat-some`); else the first word is the whole window (`concat-all`).
use Rattle.words.proofs.merge.Merging.{concat-some, concat-all}
use Rattle.words.proofs.word.concat_low.Goals as goal

pub returns-then-k-ge64 : goal.returns-then-k-ge64
returns-then-k-ge64 c = concat-all 64 _ _ _ c.if-k-ge64.true

pub returns-else-k-ge64 : goal.returns-else-k-ge64
returns-else-k-ge64 c = concat-some 64 _ _ _ c.if-k-ge64.false
