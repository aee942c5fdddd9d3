use Rattle.words.specs.Flags.{flags_of}
use Rattle.grids.specs.Workers.{RowsPut}
use Rattle.grids.proofs.transpose.put_rows.Given as goal

abbrev pub invariant-loop-i : goal.invariant-loop-i
invariant-loop-i l = RowsPut l.block l.first l.distance l.i (flags_of l.initial.out) (flags_of l.out)
