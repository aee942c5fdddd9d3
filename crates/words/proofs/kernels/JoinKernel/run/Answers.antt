-- The invariant: a flag of `all` is set if and only if one of the first i words has a set flag. One more is the law `any_step`.
use Rattle.std.proofs.Common.{arith}
use Rattle.words.proofs.counts.AnyFlag.{any_none, any_step, any-all}
use Rattle.words.proofs.ops.Combining.{length-zip}
use Rattle.words.proofs.kernels.JoinKernel.run.Goals as goal

pub loop-i-init : goal.loop-i-init
loop-i-init g c = any_none _

pub loop-i-preserved : goal.loop-i-preserved
loop-i-preserved g c = any_step _ _ _ _ _ c.loop-i.invariant c.word.ensures c.or_word-all.ensures

pub returns : goal.returns
returns g c = any-all _ c.loop-i.i _ _ c.loop-i.invariant (length-zip _ _ _ _ _ _ _ _) (omega arith) (omega arith)
