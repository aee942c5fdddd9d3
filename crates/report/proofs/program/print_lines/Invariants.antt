-- The invariant: what was written, and then the lines that are left, are the whole text.
use Rattle.std.proofs.Common.{ℕ, List, ◌++◌, ◌≡◌}
use Rattle.std.specs.Io.KnownBytes.{Appends}
use Rattle.report.proofs.program.print_lines.Given as goal

abbrev pub invariant-loop-line : goal.invariant-loop-line
invariant-loop-line g l =
    (written : List ℕ) × Appends (g.W.Write.contents l.initial.output) (g.W.Write.contents l.output) written
    × (written ++ l.line-iterator.rest.now ≡ l.initial.line-iterator.rest.now)
