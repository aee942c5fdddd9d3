-- The invariant: what the planes above the first i become, with the carry, is what all become (`way_step`).
use Rattle.std.proofs.Common.{◌≡◌}
use Rattle.words.specs.Planes.{added}
use Rattle.words.proofs.planes.PlaneLaws.{added_from}
use Rattle.words.proofs.planes.add.Given as goal

abbrev pub invariant-loop-plane : goal.invariant-loop-plane
invariant-loop-plane l = added_from l.plane-index l.planes l.carry ≡ added l.initial.planes l.w
