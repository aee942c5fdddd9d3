-- The invariant: the list is as long as before.
use Rattle.std.proofs.Common.{◌≡◌, length}
use Rattle.notation.proofs.malformed.Part.append_from.Given as goal

abbrev pub invariant-loop : goal.invariant-loop
invariant-loop g l = length l.to.items ≡ length l.initial.to.items
