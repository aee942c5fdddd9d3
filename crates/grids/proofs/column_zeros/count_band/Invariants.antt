use Rattle.std.proofs.Common.{◌*◌, min}
use Rattle.words.specs.Flags.{flags_of}
use Rattle.grids.specs.Workers.{OnesOf}
use Rattle.grids.proofs.column_zeros.count_band.Given as goal

abbrev pub invariant-loop-batch : goal.invariant-loop-batch
invariant-loop-batch l = OnesOf (flags_of l.bytes) l.first l.columns (min (511 * l.batch) l.rows) l.ones
