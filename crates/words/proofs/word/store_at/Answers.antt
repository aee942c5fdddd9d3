-- Inside the output the rest that begins at `at` is lent (`over-from`); past its end there is nothing to write over (`over_at-past`).
use Rattle.std.proofs.Common.{arith}
use Rattle.words.proofs.flags.Bytes.{over-from, length-flags}
use Rattle.words.proofs.flags.Windows.{over_at-past}
use Rattle.words.proofs.word.store_at.Goals as goal

pub returns-then-at-out : goal.returns-then-at-out
returns-then-at-out c = over-from _ _ _ _ c.store_le_u64.ensures

pub returns-else-at-out : goal.returns-else-at-out
returns-else-at-out c = over_at-past _ _ _ (omega (arith, length-flags c.args.out.now))
