-- `bits-and` at width 64.
use Rattle.words.proofs.flags.Bits.{bits-and}
use Rattle.words.proofs.ops.and_word.Goals as goal

pub returns : goal.returns
returns c = bits-and 64 _ _
