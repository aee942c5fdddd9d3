-- The invariant: the first i positions are written over the part. Writing one more is the law `row_step`.
use mathlib.Core.Bool.{true}
use mathlib.Core.Path.{◌≡◌}
use Rattle.words.specs.Flags.{copies, over}
use Rattle.masks.specs.TrueIdx.{ones_from}
use Rattle.masks.proofs.true_idx.positions.write_row.Given as goal

abbrev pub invariant-loop-i : goal.invariant-loop-i
invariant-loop-i l = l.part ≡ over l.initial.part (ones_from l.first (copies l.i true))
