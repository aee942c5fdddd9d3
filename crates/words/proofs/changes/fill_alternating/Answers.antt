-- One more word in each iteration (`write_step`, `alternating-cut`); then the output is full or has all flags (`write-end`).
use Rattle.std.proofs.Common.{refl, arith, rules}
use Rattle.words.proofs.changes.ChangeLaws.{alternating-cut, length-alternating}
use Rattle.words.proofs.flags.Bytes.{length-flags}
use Rattle.words.proofs.loops.Writing.{write-end, write-none, write_step}
use Rattle.words.proofs.changes.fill_alternating.Goals as goal

pub loop-i-init : goal.loop-i-init
loop-i-init c = (refl, write-none _ _)

pub loop-i-preserved : goal.loop-i-preserved
loop-i-preserved c = (
  search rules,
  write_step _ _ _ _ _ _ c.loop-i.invariant.1
      (alternating-cut _ _ _ _ _ c.alternating_word-word.ensures c.low_flags.ensures) c.store_at.ensures,
)

pub returns : goal.returns
returns c =
    write-end _ _ _ _ _ _ c.loop-i.invariant.1 (length-flags _) (length-alternating _ _) (λ l. omega arith) (omega arith)
