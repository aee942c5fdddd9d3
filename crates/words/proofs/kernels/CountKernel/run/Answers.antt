-- The invariant: `ones` counts i words. One more is the law `count-step`; a count is at most the flags counted, so the sum fits.
use Rattle.std.proofs.Common.{arith}
use Rattle.words.proofs.ops.Combining.{length-zip}
use Rattle.words.proofs.counts.Counting.{count_none, count-step, count-within, count_word, count-all}
use Rattle.words.proofs.kernels.CountKernel.run.Goals as goal

pub loop-i-init : goal.loop-i-init
loop-i-init g c = count_none _ _

pub overflow_add-ones : goal.overflow_add-ones
overflow_add-ones g c = omega (arith, c.requires, count-within _ _ _ _ c.loop-i.invariant, count_word _ _ c.ones_in_word-ones.ensures)

pub loop-i-preserved : goal.loop-i-preserved
loop-i-preserved g c = count-step _ _ _ _ _ c.loop-i.invariant c.word.ensures c.ones_in_word-ones.ensures

pub returns : goal.returns
returns g c = count-all _ c.loop-i.i _ _ c.loop-i.invariant (length-zip _ _ _ _ _ _ _ _) (omega arith) (omega arith)
