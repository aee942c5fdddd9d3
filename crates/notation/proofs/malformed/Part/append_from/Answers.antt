-- Each copy keeps the length of the list.
use Rattle.std.proofs.Common.{rules, refl}
use Rattle.notation.proofs.malformed.Part.append_from.Goals as goal

pub loop-init : goal.loop-init
loop-init g c = refl

pub loop-preserved : goal.loop-preserved
loop-preserved g c = search rules

pub returns-after-loop : goal.returns-after-loop
returns-after-loop g c = c.loop.invariant
