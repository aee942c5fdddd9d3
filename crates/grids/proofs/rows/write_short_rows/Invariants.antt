use Rattle.std.proofs.Common.{◌≡◌, ◌+◌, ◌*◌}
use Rattle.words.specs.Flags.{over}
use Rattle.words.specs.Loops.{stretch}
use Rattle.grids.proofs.rows.RowZeros.{zeros_up_to}
use Rattle.grids.proofs.rows.write_short_rows.Given as goal

abbrev pub invariant-loop-row : goal.invariant-loop-row
invariant-loop-row l =
    (l.counts ≡ over l.initial.counts (zeros_up_to (stretch l.bytes l.start (l.rows * l.columns)) l.columns l.row))
    × (l.at ≡ l.start + l.row * l.columns)
