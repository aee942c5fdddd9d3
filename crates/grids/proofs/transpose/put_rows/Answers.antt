use Rattle.grids.proofs.transpose.BlockLaws.{one_put}
use Rattle.grids.proofs.transpose.put_rows.Goals as goal

pub loop-i-preserved : goal.loop-i-preserved
loop-i-preserved c = one_put c.args.block.now c.args.first c.args.distance c.loop-i.i _ _ _ c.loop-i.invariant c.or_flags.ensures
