-- `bits-not` at width 64.
use Rattle.words.proofs.flags.Bits.{bits-not}
use Rattle.words.proofs.ops.not_word.Goals as goal

pub returns : goal.returns
returns c = bits-not 64 _ c.ranges.x.fits
