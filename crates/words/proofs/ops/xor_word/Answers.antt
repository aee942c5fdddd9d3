-- `bits-xor` at width 64.
use Rattle.words.proofs.flags.Bits.{bits-xor}
use Rattle.words.proofs.ops.xor_word.Goals as goal

pub returns : goal.returns
returns c = bits-xor 64 _ _
