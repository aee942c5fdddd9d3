-- One law for each branch: an offset of 0, one of 64 or more, or the high bits of one word and the low bits of the next.
use Rattle.words.proofs.merge.Merging.{merge-bits, merge-past}
use Rattle.words.proofs.merge.merge_reversed.Goals as goal

pub returns-then-offset-ge64 : goal.returns-then-offset-ge64
returns-then-offset-ge64 c = merge-past 64 _ _ _ c.if-offset-ge64.true

pub returns : goal.returns
returns c = merge-bits 64 _ _ _ c.if-offset-ge64.false c.ranges.current.fits
