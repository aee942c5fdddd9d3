-- The invariant: the first `size` bytes of the buffer, whose length does not change, are those that were read.
use Rattle.std.proofs.Common.{◌≡◌, length, take, ◌-◌, ◌≤◌}
use Rattle.std.specs.Io.KnownBytes.{Consumes}
use Rattle.report.proofs.program.read_to_end.Given as goal

abbrev pub invariant-loop-size : goal.invariant-loop-size
invariant-loop-size g l =
    (length l.buf ≡ length l.initial.buf) × (l.size ≤ length l.buf)
    × Consumes (g.R.Read.remaining l.initial.source) (g.R.Read.remaining l.source) (take l.size l.buf)

abbrev pub decreases-loop-size : goal.decreases-loop-size
decreases-loop-size g l = length l.initial.buf - l.size
