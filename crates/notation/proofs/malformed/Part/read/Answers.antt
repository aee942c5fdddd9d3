-- Each digit keeps the length of the list, and so do the copies.
use Rattle.std.proofs.Common.{rules, refl, ◌∙◌}
use Rattle.notation.proofs.malformed.Part.read.Goals as goal

pub loop-b-init : goal.loop-b-init
loop-b-init c = refl

pub loop-b-preserved : goal.loop-b-preserved
loop-b-preserved c = search rules

pub returns : goal.returns
returns c = c.append_from.ensures ∙ c.loop-b.invariant
