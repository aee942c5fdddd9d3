-- The invariant: the first c numbers are written (`wrote_step`).
use Rattle.words.specs.Planes.{Wrote}
use Rattle.words.proofs.planes.spread_half.Given as goal

abbrev pub invariant-loop-c : goal.invariant-loop-c
invariant-loop-c g l = Wrote l.planes l.s l.out l.c
