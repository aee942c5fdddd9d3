-- The invariant: a flag of `all` is set if and only if one of the first i words has a set flag. One more is the law `any_step`.
use Rattle.std.proofs.Common.{◌≡◌, ◌*◌}
use Rattle.words.specs.Counts.{any_set}
use Rattle.words.specs.Flags.{bits, window}
use Rattle.words.specs.Loops.{combined}
use Rattle.words.proofs.kernels.JoinKernel.run.Given as goal

abbrev pub invariant-loop-i : goal.invariant-loop-i
invariant-loop-i g l =
    any_set (bits 64 l.all)
    ≡ any_set
    (window (combined g.O.Operation.op (g.A.Lane.source l.lanes.a) (g.A.Lane.start l.lanes.a) (g.B.Lane.source l.lanes.b)
    (g.B.Lane.start l.lanes.b)
    (g.C.Lane.source l.lanes.c) (g.C.Lane.start l.lanes.c) (64 * l.lanes.n)) 0 (64 * l.i))
