-- The invariant: the search for `left` down from `below` has the answer of the call's search. A window that is passed over
-- has too few set flags (`turn-down`).
use mathlib.Core.Path.{◌≡◌}
use Prim.Native.Nat.{◌≤◌}
use Rattle.words.specs.Loops.{stretch}
use Rattle.masks.specs.Search.{nth_back}
use Rattle.masks.proofs.span.CheckedSpan.pass_back.Given as goal

abbrev pub invariant-loop-below : goal.invariant-loop-below
invariant-loop-below l =
    (l.below ≤ l.self.length)
    × (nth_back (stretch l.self.bytes.now l.self.start l.self.length) l.left l.below
    ≡ nth_back (stretch l.self.bytes.now l.self.start l.self.length) l.n l.end)

abbrev pub decreases-loop-below : goal.decreases-loop-below
decreases-loop-below l = l.below
