-- The invariant: all flags of the first i words are `flag`. A block with another ends the loop (`all-exit`), one without is passed over
-- (`all_more`).
use Rattle.std.proofs.Common.{sym, ◌∙◌, arith}
use Rattle.words.proofs.uniform.UniformLaws.{all-empty, all-exit, all_more}
use Rattle.words.proofs.uniform.words_all_equal.Goals as goal

pub loop-i-init : goal.loop-i-init
loop-i-init c = (omega arith, all-empty _ _ _)

pub returns-then-not-block_all_equal : goal.returns-then-not-block_all_equal
returns-then-not-block_all_equal c =
    all-exit _ _ _ _ _ _ _ (rw c.part-block.ensures.0 at c.block_all_equal.ensures) c.if-not-block_all_equal.true (omega arith)
    (omega arith)

pub loop-i-preserved : goal.loop-i-preserved
loop-i-preserved c = (
  omega arith,
  sym c.if-not-block_all_equal.false
      ∙ all_more _ _ _ _ _ _ _ _ c.loop-i.invariant.1 (rw c.part-block.ensures.0 at c.block_all_equal.ensures) (omega arith) (omega arith),
)
