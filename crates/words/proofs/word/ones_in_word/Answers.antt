-- `ones-bits` at width 64.
use Rattle.std.proofs.Common.{sym}
use Rattle.words.proofs.counts.Counting.{ones-bits}
use Rattle.words.proofs.word.ones_in_word.Goals as goal

pub returns : goal.returns
returns c = sym (ones-bits 64 _ c.ranges.w.fits)
