use Rattle.std.proofs.Common.{◌*◌, get_or, min, ℕ}
use Rattle.words.specs.Loops.{stretch}
use Rattle.grids.specs.Grid.{column_zeros}
use Rattle.grids.specs.Workers.{Renewed}
use Rattle.grids.proofs.column_zeros.write_column_zeros.Given as goal

abbrev pub invariant-loop-band : goal.invariant-loop-band
invariant-loop-band l =
    Renewed (λ (p : ℕ). get_or (column_zeros (stretch l.bytes l.start (l.rows * l.columns)) l.rows l.columns) p 0)
    0 (min l.columns (64 * l.band)) l.initial.counts l.counts
