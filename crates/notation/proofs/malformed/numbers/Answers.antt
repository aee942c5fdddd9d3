-- Each call keeps the length of the list.
use Rattle.std.proofs.Common.{rules, refl}
use Rattle.notation.proofs.malformed.numbers.Goals as goal

pub loop-item-init : goal.loop-item-init
loop-item-init c = refl

pub loop-item-preserved : goal.loop-item-preserved
loop-item-preserved c = search rules

pub returns : goal.returns
returns c = c.loop-item.invariant
