-- Masks of unequal serials pass check 14 (`apart`); for equal serials `eq` compares the flags (`compared`, `not-compared`).
use mathlib.Core.Path.{◌∙◌}
use Rattle.masks.proofs.superseding.SupersedingLaws.{apart, compared, not-compared}
use Rattle.masks.proofs.refusal.RefusalLaws.{exit-number, number-ne0}
use Rattle.masks.proofs.superseding.check_superseding.Goals as goal

pub returns-then-first-second : goal.returns-then-first-second
returns-then-first-second c =
    apart _ _ _ _ _ _ _ c.if-first-second.true c.earlier.ensures.refused c.check_mask.ensures.refused
    c.check_mask-then-first-second.ensures.refused

pub returns-in_err-same : goal.returns-in_err-same
returns-in_err-same c =
    exit-number _ _ c.from_residual.ensures.1 ∙ not-compared _ _ _ _ _ c.in_err-same.ensures.refused (number-ne0 _)

pub returns : goal.returns
returns c =
    let e = c.in_ok-same.ensures in compared _ _ _ _ _ _ c.if-first-second.false e.refused e.flag c.check.ensures.refused
