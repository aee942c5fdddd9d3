-- The larger of two serials is the largest of a list of two: `two-serials`.
use Rattle.masks.proofs.bitmap_ops.CombineLaws.{two-serials}
use Rattle.masks.proofs.bitmap_ops.pair_serial.Goals as goal

pub returns : goal.returns
returns c = two-serials _ _ _ c.max.ensures
