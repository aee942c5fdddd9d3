use Rattle.std.proofs.Common.{◌*◌}
use Rattle.words.specs.Flags.{flags_of}
use Rattle.words.specs.Loops.{stretch}
use Rattle.grids.specs.Workers.{BlockJoined}
use Rattle.grids.proofs.transpose.write_transposed.Given as goal

abbrev pub invariant-loop-band : goal.invariant-loop-band
invariant-loop-band l =
    BlockJoined (stretch l.bytes l.start (l.rows * l.columns)) l.rows l.columns 0 l.rows 0 (64 * l.band)
    (flags_of l.initial.out) (flags_of l.out)
