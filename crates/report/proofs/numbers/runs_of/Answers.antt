-- The cursor is made, since the mask passes its checks (`accepted`), and is not refused (`ok-next`). Each iteration passes over a run
-- (`run-passed`); if none is left all are counted (`no_run`).
use Rattle.std.proofs.Common.{rules}
use mathlib.Core.Path.{◌∙◌}
use native.Mathlib.Omega.{arith}
use Rattle.masks.proofs.refusal.ClauseLaws.{accepted}
use Rattle.std.proofs.lemmas.Result.{IfOk-at_ok}
use Rattle.report.proofs.numbers.NumberLaws.{none-counted, no_run, ok-next, run-passed}
use Rattle.report.proofs.numbers.runs_of.Goals as goal

pub unwrap-cursor-requires : goal.unwrap-cursor-requires
unwrap-cursor-requires c = accepted _ (c.new.ensures.refused ∙ c.requires)

pub loop-next-init : goal.loop-next-init
loop-next-init c = none-counted _ _ _ (IfOk-at_ok _ c.unwrap-cursor.ensures c.new.ensures.cursor)

pub unwrap-requires : goal.unwrap-requires
unwrap-requires c = ok-next _ _ _ _ c.requires c.loop-next.invariant _ c.next.ensures.refused

pub returns : goal.returns
returns c = no_run _ _ _ _ c.requires c.loop-next.invariant _ _ c.next.ensures.step c.unwrap.ensures (search rules)

pub overflow_add-runs : goal.overflow_add-runs
overflow_add-runs c =
    let past = run-passed _ _ _ _ c.requires c.loop-next.invariant _ _ c.next.ensures.step c.unwrap.ensures (search rules) in
    omega (arith, past.2)

pub loop-next-smaller : goal.loop-next-smaller
loop-next-smaller c =
    let past = run-passed _ _ _ _ c.requires c.loop-next.invariant _ _ c.next.ensures.step c.unwrap.ensures (search rules) in
    omega (arith, past.1, past.0.reached)

pub loop-next-preserved : goal.loop-next-preserved
loop-next-preserved c =
    (run-passed _ _ _ _ c.requires c.loop-next.invariant _ _ c.next.ensures.step c.unwrap.ensures (search rules)).0
