-- Whole words first, then word by word to the end of the bytes or of the length, then the flags that are left after them.
use Rattle.std.proofs.Common.{◌≡◌, ◌≤◌, ◌*◌}
use Rattle.words.specs.Flags.{window, count}
use Rattle.words.specs.Loops.{combined}
use Rattle.words.proofs.counts.count_ones_of.Given as goal

abbrev pub invariant-loop-i : goal.invariant-loop-i
invariant-loop-i l =
    (l.i ≤ l.n)
    × (l.ones ≡ count (window (combined l.op l.a.bytes.now l.a.start l.b.bytes.now l.b.start l.c.bytes.now l.c.start l.len) 0 (64 * l.i)))
