-- The largest of three serials, by two tests: `three-serials`.
use Rattle.masks.proofs.bitmap_ops.CombineLaws.{three-serials}
use Rattle.masks.proofs.bitmap_ops.select_serial.Goals as goal

pub returns : goal.returns
returns c = three-serials _ _ _ _ _ c.max.ensures c.max-2.ensures
