-- If both fail, the least refusal has the earlier number (`least-number`); else a law for each side that passes.
use mathlib.Core.Path.{sym, ap, ap₂, ◌∙◌}
use Rattle.masks.specs.Checks.{earlier as earlier_of}
use Rattle.masks.specs.Refusal.{failure_of, number}
use Rattle.masks.proofs.checks.CheckLaws.{earlier-none, none-earlier}
use Rattle.masks.proofs.refusal.RefusalLaws.{least-number}
use Rattle.masks.proofs.refusal.earlier.Goals as goal

pub returns-in-Err-Err : goal.returns-in-Err-Err
returns-in-Err-Err c = record {
  refused =
      ap number c.min.ensures ∙ least-number _ _
      ∙ sym (ap₂ (λ p q. earlier_of (failure_of p) (failure_of q)) c.in-Err-Err.is-0 c.in-Err-Err.is-1);
}

pub returns-in-Err-Ok : goal.returns-in-Err-Ok
returns-in-Err-Ok c = record {
  refused =
      sym (earlier-none _) ∙ sym (ap₂ (λ p q. earlier_of (failure_of p) (failure_of q)) c.in-Err-Ok.is-0 c.in-Err-Ok.is-1);
}

pub returns-in-Ok-default : goal.returns-in-Ok-default
returns-in-Ok-default c = record {
  refused = sym (none-earlier _) ∙ sym (ap (λ p. earlier_of (failure_of p) (failure_of c.args.b)) c.in-Ok-default.is-0);
}
