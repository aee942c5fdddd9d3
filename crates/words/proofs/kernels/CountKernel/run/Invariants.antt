-- The invariant: `ones` counts i words. One more is the law `count-step`; a count is at most the flags counted, so the sum fits.
use Rattle.std.proofs.Common.{◌≡◌, ◌*◌}
use Rattle.words.specs.Flags.{count, window}
use Rattle.words.specs.Loops.{combined}
use Rattle.words.proofs.kernels.CountKernel.run.Given as goal

abbrev pub invariant-loop-i : goal.invariant-loop-i
invariant-loop-i g l =
    l.ones
    ≡ count
    (window (combined g.O.Operation.op (g.A.Lane.source l.lanes.a) (g.A.Lane.start l.lanes.a) (g.B.Lane.source l.lanes.b)
    (g.B.Lane.start l.lanes.b)
    (g.C.Lane.source l.lanes.c) (g.C.Lane.start l.lanes.c) (64 * l.lanes.n)) 0 (64 * l.i))
