-- The invariant: the output is under way (`UnderWay`), with the positions at or after `at`. One more word is the law `word-on`.
use Prim.Native.Nat.{◌≤◌, ◌-◌}
use Rattle.words.specs.Loops.{stretch}
use Rattle.masks.specs.TrueIdx.{ones_left}
use Rattle.masks.proofs.true_idx.PositionLaws.{UnderWay}
use Rattle.masks.proofs.true_idx.positions.write_words.Given as goal

abbrev pub invariant-loop-at : goal.invariant-loop-at
invariant-loop-at l =
    (l.at ≤ l.span.length) × UnderWay l.initial.out 0 (ones_left (stretch l.span.bytes.now l.span.start l.span.length) l.place)
    l.out l.count (ones_left (stretch l.span.bytes.now l.span.start l.span.length) l.at)

abbrev pub decreases-loop-at : goal.decreases-loop-at
decreases-loop-at l = l.span.length - l.at
