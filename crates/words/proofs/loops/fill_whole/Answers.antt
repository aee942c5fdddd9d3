-- `fill-front`: the bytes of n words are filled.
use Rattle.std.proofs.Common.{arith}
use Rattle.words.proofs.loops.Writing.{fill-front}
use Rattle.words.proofs.loops.fill_whole.Goals as goal

pub returns : goal.returns
returns c = fill-front _ _ _ _ _ (omega arith) c.min-n.ensures c.fill_bytes.ensures
