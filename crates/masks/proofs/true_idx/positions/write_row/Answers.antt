-- The invariant: the first i positions are written over the part. Writing one more is the law `row_step`.
use mathlib.Core.Path.{refl}
use Rattle.masks.proofs.true_idx.PositionLaws.{row-none, row_step, row-all}
use Rattle.masks.proofs.true_idx.positions.write_row.Goals as goal

pub loop-i-init : goal.loop-i-init
loop-i-init c = row-none _ _

pub loop-i-preserved : goal.loop-i-preserved
loop-i-preserved c = row_step _ _ _ _ _ c.loop-i.invariant refl

pub returns : goal.returns
returns c = row-all _ _ _ _ c.loop-i.invariant c.loop-i.auto.i-end c.loop-i-test.false
