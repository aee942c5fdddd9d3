use Rattle.words.specs.Flags.{flags_of}
use Rattle.grids.specs.Workers.{RowsLoaded}
use Rattle.grids.proofs.loads.load_rows.Given as goal

abbrev pub invariant-loop-i : goal.invariant-loop-i
invariant-loop-i l = RowsLoaded (flags_of l.bytes) l.first l.distance l.i l.initial.words l.words
