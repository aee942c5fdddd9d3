-- The invariant: what the planes above the first i become, with the carry, is what all become (`way_step`).
use Rattle.std.proofs.Common.{◌∙◌, arith}
use Rattle.words.proofs.planes.PlaneLaws.{way_none, way_step, way_end}
use Rattle.words.proofs.planes.add.Goals as goal

pub loop-plane-init : goal.loop-plane-init
loop-plane-init c = way_none _ _

pub loop-plane-preserved : goal.loop-plane-preserved
loop-plane-preserved c = way_step _ _ _ (omega arith) ∙ c.loop-plane.invariant

pub returns : goal.returns
returns c = way_end _ _ _ _ (omega arith) c.loop-plane.invariant
