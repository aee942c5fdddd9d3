-- The invariant: the first c numbers are written (`wrote_step`).
use Rattle.std.proofs.Common.{arith}
use Rattle.words.proofs.planes.PlaneLaws.{wrote_none, wrote_step}
use Rattle.words.proofs.planes.spread_half.Goals as goal

pub loop-c-init : goal.loop-c-init
loop-c-init g c = wrote_none _ _ _

pub loop-c-preserved : goal.loop-c-preserved
loop-c-preserved g c =
    wrote_step _ _ _ _ _ (omega arith) c.loop-c.invariant
    (c.column_by.ensures _ (omega arith) (c.requires.1 _ (omega arith)))
