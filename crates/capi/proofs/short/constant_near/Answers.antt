-- Which combination wrote follows from the flag: `written-set`, `written-clear`.
use Rattle.masks.proofs.bitmap_ops.CombineLaws.{written-set, written-clear}
use Rattle.capi.proofs.short.constant_near.Goals as goal

pub returns-then-flag : goal.returns-then-flag
returns-then-flag c = written-set _ _ _ _ _ _ _ _ c.if-flag.true c.combine_near.ensures

pub returns-else-flag : goal.returns-else-flag
returns-else-flag c = written-clear _ _ _ _ _ _ _ _ c.if-flag.false c.combine_near-else-flag.ensures
