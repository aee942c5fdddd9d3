-- By cases on the operation: `and` and `or` look for a mask that is all of one flag (`by-and`, `by-or`).
use Rattle.masks.proofs.bitmap_ops.CombineLaws.{by-and, by-or, not-short}
use Rattle.masks.proofs.shortcuts.pair_shortcut.Goals as goal
use Rattle.masks.proofs.shortcuts.pair_shortcut.Goals.{in-And, in-Or}

pub returns-in-AndNot : goal.returns-in-AndNot
returns-in-AndNot c = not-short _ _ _ _ c.in-AndNot.is

pub returns : goal.returns
returns c = elim c.match-op.branch [
  | in-And w ↦ rw w.in-And.is (by-and _ _ _ _ _ c.requires (rw w.flag-is at c.either_all.ensures))
  | in-Or w ↦ rw w.in-Or.is (by-or _ _ _ _ (rw w.flag-is at c.either_all.ensures))
]
