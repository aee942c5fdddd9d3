-- The invariant: no flag of the first i words is set. A block with one ends the loop (`any-exit`), one without is passed over (`any-more`).
use Rattle.std.proofs.Common.{◌≡◌, ◌≤◌, ◌*◌, ◌-◌}
use Rattle.words.specs.Flags.{window, count}
use Rattle.words.specs.Loops.{combined}
use Rattle.words.proofs.counts.any_whole.Given as goal

abbrev pub invariant-loop-i : goal.invariant-loop-i
invariant-loop-i g l =
    (l.i ≤ l.n) × (0 ≡ count (window (combined l.op (g.A.Lane.source l.lanes.a) (g.A.Lane.start l.lanes.a) (g.B.Lane.source l.lanes.b)
    (g.B.Lane.start l.lanes.b) (g.C.Lane.source l.lanes.c) (g.C.Lane.start l.lanes.c) (64 * l.n)) 0 (64 * l.i)))

abbrev pub decreases-loop-i : goal.decreases-loop-i
decreases-loop-i g l = l.n - l.i
