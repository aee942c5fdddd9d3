-- The invariant: the list is as long as before.
use Rattle.std.proofs.Common.{◌≡◌, length}
use Rattle.notation.proofs.malformed.bytes.Given as goal

abbrev pub invariant-loop-piece : goal.invariant-loop-piece
invariant-loop-piece l = length l.to.items ≡ length l.initial.to.items
