-- The invariant: the list is as long as before.
use Rattle.std.proofs.Common.{◌≡◌, length}
use Rattle.notation.proofs.malformed.Part.read.Given as goal

abbrev pub invariant-loop-b : goal.invariant-loop-b
invariant-loop-b l = length l.to.items ≡ length l.initial.to.items
