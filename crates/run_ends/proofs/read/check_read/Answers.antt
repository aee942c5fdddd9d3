-- The checks are made in their order: what each exit and the last check say of all of them (`CheckLaws`).
use Rattle.std.proofs.Common.{sym, ap₂, ◌∙◌}
use Rattle.masks.specs.Checks.{earlier}
use Rattle.masks.proofs.refusal.RefusalLaws.{number-ne0, exit-number}
use Rattle.run_ends.proofs.read.CheckLaws.{count-failed, first-failed, output-left, runs-failed}
use Rattle.run_ends.proofs.read.check_read.Goals as goal

pub returns-in_err-earlier : goal.returns-in_err-earlier
returns-in_err-earlier c =
    exit-number _ _ c.from_residual.ensures.1
    ∙ first-failed _ _ _ _ _ _
    (c.in_err-earlier.ensures.refused ∙ ap₂ earlier c.check_span.ensures.refused c.check.ensures.refused) (number-ne0 _)

pub returns-in_err-check_runs : goal.returns-in_err-check_runs
returns-in_err-check_runs c =
    let first = sym (c.in_ok-earlier.ensures.refused ∙ ap₂ earlier c.check_span.ensures.refused c.check.ensures.refused) in
    exit-number _ _ c.from_residual-in_err-check_runs.ensures.1
    ∙ runs-failed _ _ _ _ _ _ first c.in_err-check_runs.ensures.refused (number-ne0 _)

pub returns-in_err-check_mask : goal.returns-in_err-check_mask
returns-in_err-check_mask c =
    let first = sym (c.in_ok-earlier.ensures.refused ∙ ap₂ earlier c.check_span.ensures.refused c.check.ensures.refused) in
    exit-number _ _ c.from_residual-in_err-check_mask.ensures.1
    ∙ count-failed _ _ _ _ _ _ first c.in_ok-check_runs.ensures.refused c.in_err-check_mask.ensures.refused (number-ne0 _)

pub returns : goal.returns
returns c =
    let first = sym (c.in_ok-earlier.ensures.refused ∙ ap₂ earlier c.check_span.ensures.refused c.check.ensures.refused) in
    output-left _ _ _ _ _ _ first c.in_ok-check_runs.ensures.refused c.in_ok-check_mask.ensures.refused c.check_output.ensures.refused
