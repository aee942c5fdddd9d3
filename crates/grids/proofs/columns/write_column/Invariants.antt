use Rattle.std.proofs.Common.{◌≡◌, ◌*◌}
use Rattle.words.specs.Flags.{flags_of, over, window}
use Rattle.words.specs.Loops.{stretch}
use Rattle.grids.specs.Grid.{column_flags}
use Rattle.grids.proofs.columns.write_column.Given as goal

abbrev pub invariant-loop-i : goal.invariant-loop-i
invariant-loop-i l =
    flags_of l.out
    ≡ over (flags_of l.initial.out)
    (window (column_flags (stretch l.bytes l.start (l.rows * l.columns)) l.rows l.columns l.column) 0 (64 * l.i))
