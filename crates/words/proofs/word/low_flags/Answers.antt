-- Below 64 the remainder by 2 ^ k keeps the k low bits (`low-some`); if k is 64 or more all are kept (`low-all`).
use Rattle.words.proofs.word.Loads.{low-all, low-some}
use Rattle.words.proofs.word.low_flags.Goals as goal

pub returns-then-k-ge64 : goal.returns-then-k-ge64
returns-then-k-ge64 c = low-all 64 _ _ c.if-k-ge64.true c.ranges.w.fits

pub returns-else-k-ge64 : goal.returns-else-k-ge64
returns-else-k-ge64 c = low-some 64 _ _ c.if-k-ge64.false
