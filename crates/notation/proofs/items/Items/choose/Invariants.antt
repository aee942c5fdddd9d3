-- The first choice leaves nothing over.
use Rattle.std.proofs.Common.{◌≡◌}
use Rattle.notation.proofs.items.Items.choose.Given as goal

abbrev pub invariant-loop-k : goal.invariant-loop-k
invariant-loop-k l = l.fn.t ≡ 0 → l.rest ≡ 0
