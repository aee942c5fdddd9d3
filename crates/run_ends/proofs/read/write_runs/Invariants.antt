use Rattle.std.proofs.Common.{length}
use Rattle.words.specs.Flags.{flags_of}
use Rattle.words.specs.Loops.{stretch}
use Rattle.run_ends.proofs.read.ReadLaws.{Reading}
use Rattle.run_ends.proofs.read.write_runs.Given as goal

abbrev pub invariant-loop-k : goal.invariant-loop-k
invariant-loop-k l =
    Reading l.ends (stretch l.bytes l.start (length l.ends)) l.n (flags_of l.initial.out) (flags_of l.out) l.word l.k l.last
