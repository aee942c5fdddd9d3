-- Each piece keeps the length of the list.
use Rattle.std.proofs.Common.{rules, refl}
use Rattle.notation.proofs.malformed.bytes.Goals as goal

pub loop-piece-init : goal.loop-piece-init
loop-piece-init c = refl

pub loop-piece-preserved : goal.loop-piece-preserved
loop-piece-preserved c = search rules

pub returns : goal.returns
returns c = c.loop-piece.invariant
