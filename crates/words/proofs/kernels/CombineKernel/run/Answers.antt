-- The invariant: i words are written. One more is the law `write_step`.
use Rattle.std.proofs.Common.{arith}
use Rattle.words.proofs.ops.Combining.{length-zip}
use Rattle.words.proofs.loops.Writing.{write-none, write_step, write-all}
use Rattle.words.proofs.kernels.CombineKernel.run.Goals as goal

pub loop-i-init : goal.loop-i-init
loop-i-init g c = write-none _ _

pub loop-i-preserved : goal.loop-i-preserved
loop-i-preserved g c = write_step _ _ _ _ _ _ c.loop-i.invariant c.word-w.ensures c.put_word.ensures

pub returns : goal.returns
returns g c = write-all _ _ c.loop-i.i _ _ c.loop-i.invariant (length-zip _ _ _ _ _ _ _ _) (omega arith) (omega arith)
