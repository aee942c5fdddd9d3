-- The invariant: if the loop began with the whole words over flags F, i words are over F. One more is `write_step`, the end `write-end`.
use Rattle.std.proofs.Common.{◌≤◌, ◌*◌, Bool, List, ◌≡◌, length}
use Rattle.words.specs.Flags.{flags_of, over, window}
use Rattle.words.specs.Loops.{combined}
use Rattle.words.proofs.loops.combine.Given as goal

abbrev pub invariant-loop-i : goal.invariant-loop-i
invariant-loop-i l =
    (l.i ≤ l.n)
    × ((length l.out ≡ length l.initial.out)
    × ((F : List Bool) → flags_of l.initial.out ≡ over F
    (window (combined l.op l.a.bytes.now l.a.start l.b.bytes.now l.b.start l.c.bytes.now l.c.start l.len) 0 (64 * l.initial.i))
    → flags_of l.out ≡ over F
    (window (combined l.op l.a.bytes.now l.a.start l.b.bytes.now l.b.start l.c.bytes.now l.c.start l.len) 0 (64 * l.i))))
