use Rattle.words.proofs.transpose.TransposeLaws.{one_more}
use Rattle.words.proofs.transpose.exchange_halves.Goals as goal

pub loop-i-preserved : goal.loop-i-preserved
loop-i-preserved c = one_more _ _ _ _ _ _ c.loop-i.invariant c.loop-i-test.true c.requires.3 c.exchange-x.ensures
