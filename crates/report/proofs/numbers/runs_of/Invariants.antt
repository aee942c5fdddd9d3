-- The invariant: the runs counted and those after the cursor's place are all. Each iteration passes over one (`run-passed`).
use Prim.Native.Nat.{◌-◌}
use Rattle.report.proofs.numbers.NumberLaws.{RunsCounted}
use Rattle.report.proofs.numbers.runs_of.Given as goal

abbrev pub invariant-loop-next : goal.invariant-loop-next
invariant-loop-next l = RunsCounted l.fn.mask l.bytes l.cursor l.runs

abbrev pub decreases-loop-next : goal.decreases-loop-next
decreases-loop-next l = l.fn.mask.length - l.cursor.place
