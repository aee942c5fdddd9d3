-- The invariant: the output is under way (`UnderWay`), with the positions of what is left of the word. An iteration takes at least one of
-- them and moves by at most 128 flags.
use Prim.Native.Nat.{◌≤◌, ◌+◌, ◌*◌}
use lib.ListN.{length}
use Rattle.words.specs.Flags.{bits}
use Rattle.masks.specs.TrueIdx.{ones_from}
use Rattle.masks.proofs.true_idx.PositionLaws.{UnderWay}
use Rattle.masks.proofs.true_idx.positions.write_word.Given as goal

abbrev pub invariant-loop-done : goal.invariant-loop-done
invariant-loop-done l =
    UnderWay l.initial.out l.done (ones_from l.first (bits 64 l.word)) l.out l.count (ones_from l.at (bits 64 l.w))
    × (l.at + 128 * length (ones_from l.at (bits 64 l.w)) ≤ l.first + 8192)

abbrev pub decreases-loop-done : goal.decreases-loop-done
decreases-loop-done l = length (ones_from l.at (bits 64 l.w))
