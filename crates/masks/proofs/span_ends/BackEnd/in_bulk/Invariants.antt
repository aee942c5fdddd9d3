-- The invariant: the words at i and after it consist of equal flags.
use Prim.Native.Nat.{◌≤◌, ◌*◌, ◌-◌, ◌+◌}
use Rattle.words.specs.Ends.{trailing}
use Rattle.words.specs.Loops.{stretch}
use Rattle.masks.proofs.span_ends.BackEnd.in_bulk.Given as goal

abbrev pub invariant-loop-i : goal.invariant-loop-i
invariant-loop-i l =
    64 * (l.n - l.i) ≤ trailing l.flag (stretch l.split.bytes.now (8 * l.split.parts.bulk_start + 64 * l.i) (64 * (l.n - l.i)))
