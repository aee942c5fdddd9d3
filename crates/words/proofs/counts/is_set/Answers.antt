-- `word-any`: a number is 0 if and only if no flag of its bits is set.
use Rattle.words.proofs.counts.AnyFlag.{word-any}
use Rattle.words.proofs.counts.is_set.Goals as goal

pub returns : goal.returns
returns c = word-any 64 _ c.ranges.w.fits
