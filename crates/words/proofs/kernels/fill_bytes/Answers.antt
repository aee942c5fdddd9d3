-- Each byte has the flag eight times (`filled_all`).
use Rattle.std.proofs.Common.{arith}
use Rattle.words.proofs.loops.Writing.{filled_all}
use Rattle.words.proofs.kernels.fill_bytes.Goals as goal

pub returns : goal.returns
returns c = filled_all _ _ c.loop-b.b-index _ _ c.loop-b.invariant (omega arith) c.constant_byte-byte.ensures
