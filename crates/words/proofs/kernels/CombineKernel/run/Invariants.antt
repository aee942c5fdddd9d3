-- The invariant: i words are written. One more is the law `write_step`.
use Rattle.std.proofs.Common.{◌≡◌, ◌*◌}
use Rattle.words.specs.Flags.{flags_of, over, window}
use Rattle.words.specs.Loops.{combined}
use Rattle.words.proofs.kernels.CombineKernel.run.Given as goal

abbrev pub invariant-loop-i : goal.invariant-loop-i
invariant-loop-i g l =
    flags_of l.out ≡ over (flags_of l.initial.out)
    (window (combined g.O.Operation.op (g.A.Lane.source l.lanes.a) (g.A.Lane.start l.lanes.a) (g.B.Lane.source l.lanes.b)
    (g.B.Lane.start l.lanes.b)
    (g.C.Lane.source l.lanes.c) (g.C.Lane.start l.lanes.c) (64 * l.lanes.n)) 0 (64 * l.i))
