-- The invariant: i words are written and counted. One more is the laws `write_step` and `count-step`, of the word by `span-word`.
use Rattle.std.proofs.Common.{arith, refl}
use Rattle.words.proofs.counts.Counting.{count_none, count-step, count-within, count_word, count-all, span-word}
use Rattle.words.proofs.flags.Windows.{length-window}
use Rattle.words.proofs.loops.Writing.{write-none, write_step, write-all}
use Rattle.words.proofs.kernels.copy_words.Goals as goal

pub loop-i-init : goal.loop-i-init
loop-i-init g c = (count_none _ _, write-none _ _)

pub overflow_add-ones : goal.overflow_add-ones
overflow_add-ones g c = omega (arith, count-within _ _ _ _ c.loop-i.invariant.0, count_word _ _ c.ones_in_word-ones.ensures)

pub loop-i-preserved : goal.loop-i-preserved
loop-i-preserved g c = (
  count-step _ _ _ _ _ c.loop-i.invariant.0 (span-word _ _ _ _ _ _ (omega arith) refl c.word-w.ensures) c.ones_in_word-ones.ensures,
  write_step _ _ _ _ _ _ c.loop-i.invariant.1 (span-word _ _ _ _ _ _ (omega arith) refl c.word-w.ensures) c.put_word.ensures,
)

pub returns : goal.returns
returns g c =
    let inv = c.loop-i.invariant in record {
      ones = count-all _ c.loop-i.i _ _ inv.0 (length-window _ _ _) (omega arith) (omega arith);
      flags = write-all _ _ c.loop-i.i _ _ inv.1 (length-window _ _ _) (omega arith) (omega arith);
    }
