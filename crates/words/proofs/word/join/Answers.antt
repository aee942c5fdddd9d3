-- The invariant: w is the number of the first i bytes. One more byte is the law `up_step`.
use Rattle.std.proofs.Common.{arith}
use Rattle.words.proofs.word.Loads.{up_none, up_step, up-all}
use Rattle.words.proofs.word.join.Goals as goal

pub loop-i-init : goal.loop-i-init
loop-i-init c = up_none _

pub loop-i-preserved : goal.loop-i-preserved
loop-i-preserved c =
    up_step _ _ _ _ c.requires c.loop-i-test.true c.loop-i.invariant
    (c.from.ensures, omega (arith, c.from.ensures, c.type_inv.part c.loop-i.i))

pub returns : goal.returns
returns c = search up-all
