-- `bits-or` at width 64.
use Rattle.words.proofs.flags.Bits.{bits-or}
use Rattle.words.proofs.ops.or_word.Goals as goal

pub returns : goal.returns
returns c = bits-or 64 _ _
