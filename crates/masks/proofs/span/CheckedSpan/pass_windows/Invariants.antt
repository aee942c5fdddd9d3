-- The invariant: the search for `left` up from `at` has the answer of the call's search. A window that is passed over has too few set
-- flags (`turn-only`).
use mathlib.Core.Path.{◌≡◌}
use Prim.Native.Nat.{◌-◌, ◌<◌}
use Rattle.words.specs.Loops.{stretch}
use Rattle.masks.specs.Search.{nth_from}
use Rattle.masks.proofs.span.CheckedSpan.pass_windows.Given as goal

abbrev pub invariant-loop-at : goal.invariant-loop-at
invariant-loop-at l =
    (l.at < l.self.length)
    × (nth_from (stretch l.self.bytes.now l.self.start l.self.length) l.left l.at
    ≡ nth_from (stretch l.self.bytes.now l.self.start l.self.length) l.n l.from)

abbrev pub decreases-loop-at : goal.decreases-loop-at
decreases-loop-at l = l.inner - l.at
