-- The operation `Not` reads only the first of three lists (`not-each`); the serial is that of the one mask (`one-serial`).
use Rattle.std.proofs.Common.{rules}
use Rattle.masks.proofs.bitmap_ops.CombineLaws.{each-made, each-written, not-each, one-serial}
use Rattle.masks.proofs.bitmap_ops.not.Goals as goal

pub returns-clause-mask : goal.returns-clause-mask
returns-clause-mask c = each-made _ _ _ _ _ c.not_counted-unset.ensures (one-serial _) c.mask_under.ensures

pub returns-clause-bytes : goal.returns-clause-bytes
returns-clause-bytes c =
    each-written _ _ _ _ (search rules) (search rules) (rw (c.flags-own.ensures.0, c.flags-own.ensures.1) at c.combine.ensures)
    (not-each _ _ _)
