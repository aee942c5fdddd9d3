-- The invariant: the list is as long as before.
use Rattle.std.proofs.Common.{◌≡◌, length}
use Rattle.notation.proofs.malformed.numbers.Given as goal

abbrev pub invariant-loop-item : goal.invariant-loop-item
invariant-loop-item l = length l.to.items ≡ length l.initial.to.items
