-- The invariant: the first i words consist of equal flags.
use Prim.Native.Nat.{◌≤◌, ◌*◌}
use Rattle.words.specs.Ends.{leading}
use Rattle.words.specs.Loops.{stretch}
use Rattle.masks.proofs.span_ends.FrontEnd.in_bulk.Given as goal

abbrev pub invariant-loop-i : goal.invariant-loop-i
invariant-loop-i l = 64 * l.i ≤ leading l.flag (stretch l.split.bytes.now (8 * l.split.parts.bulk_start) (64 * l.i))
