-- `bits-or` and `bits-not` at width 64; `zip-map` makes the two one operation.
use Rattle.words.proofs.flags.Bits.{bits-or, bits-not}
use Rattle.words.proofs.ops.Combining.{zip-map}
use Rattle.words.proofs.ops.or_not_word.Goals as goal

pub returns : goal.returns
returns c = simp (bits-or, bits-not 64 _ c.ranges.y.fits, zip-map)
