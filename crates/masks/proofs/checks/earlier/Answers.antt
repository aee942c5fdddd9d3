-- One law for each branch: a number of 0 returns the other (`none-earlier`, `earlier-none`), else the ranks decide (`first-least`,
-- `second-least`).
use mathlib.Core.Path.{sym}
use native.Mathlib.Omega.{arith}
use Rattle.masks.proofs.checks.CheckLaws.{none-earlier, earlier-none, first-least, second-least}
use Rattle.masks.proofs.checks.earlier.Goals as goal

pub returns-then-a-eq0 : goal.returns-then-a-eq0
returns-then-a-eq0 c = record { first = rw c.if-a-eq0.true (sym (none-earlier _)) }

pub returns-then-b-eq0 : goal.returns-then-b-eq0
returns-then-b-eq0 c = record { first = rw c.if-b-eq0.true (sym (earlier-none _)) }

pub returns-then-rank : goal.returns-then-rank
returns-then-rank c = record { first = sym (first-least _ _ c.if-a-eq0.false c.if-b-eq0.false (omega arith)) }

pub returns-else-rank : goal.returns-else-rank
returns-else-rank c = record { first = sym (second-least _ _ c.if-a-eq0.false c.if-b-eq0.false (omega arith)) }
