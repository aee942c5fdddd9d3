-- The invariant: no flag searched is set from the place up to `at`. A block without a set flag keeps it (`passed-block`).
use Prim.Native.Nat.{◌-◌}
use lib.ListN.{take}
use Rattle.masks.specs.NextAndNot.{free_flags}
use Rattle.masks.specs.Workers.{PassedTo}
use Rattle.masks.proofs.next_and_not.pass_blocks.Given as goal

abbrev pub invariant-loop-at : goal.invariant-loop-at
invariant-loop-at l = PassedTo (take l.end (free_flags l.first l.first_bytes l.second l.second_bytes)) l.end l.from l.at

abbrev pub decreases-loop-at : goal.decreases-loop-at
decreases-loop-at l = l.end - l.at
