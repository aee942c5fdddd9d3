-- The invariant: the output is under way (`UnderWay`), with the set flags of what is left of the word. An iteration clears one of them.
use Rattle.std.proofs.Common.{◌≡◌, ◌+◌, ◌<◌, ◌^◌, length}
use Rattle.run_ends.specs.WriteWorkers.{put_from, set_places}
use Rattle.run_ends.proofs.write.EndPlaces.{UnderWay}
use Rattle.run_ends.proofs.write.write_places.Given as goal

abbrev pub invariant-loop-w : goal.invariant-loop-w
invariant-loop-w l =
    UnderWay (put_from l.initial.ends l.done (set_places l.first l.word)) l.ends l.count (set_places l.first l.w)
    × ((l.count + length (set_places l.first l.w) ≡ l.done + length (set_places l.first l.word)) × (l.w < 2 ^ 64))

abbrev pub decreases-loop-w : goal.decreases-loop-w
decreases-loop-w l = length (set_places l.first l.w)
