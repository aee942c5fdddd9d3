-- The invariant: the flags from `place` to `at` equal `flag`. A word of such flags keeps it (`alike-more`), another ends the loop
-- (`alike-stop`).
use Rattle.masks.proofs.iterator.IteratorLaws.{Alike}
use Prim.Native.Nat.{◌-◌}
use Rattle.words.specs.Loops.{stretch}
use Rattle.masks.proofs.span.leading_by_words.Given as goal

abbrev pub invariant-loop-at : goal.invariant-loop-at
invariant-loop-at l = Alike (stretch l.bytes l.start l.length) l.flag l.length l.place l.at

abbrev pub decreases-loop-at : goal.decreases-loop-at
decreases-loop-at l = l.length - l.at
