-- The invariant: the first bytes are written, and the others unchanged.
use Rattle.std.proofs.Common.{◌≡◌, ◌++◌, drop, replicate}
use Rattle.words.proofs.kernels.fill_bytes.Given as goal

abbrev pub invariant-loop-b : goal.invariant-loop-b
invariant-loop-b l = l.out ≡ replicate l.b-index l.byte ++ drop l.b-index l.initial.out
