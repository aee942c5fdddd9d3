-- What follows from a yes (`yes`), and that with no permission mask there is none (`never`).
use Rattle.std.specs.Prelude.{Option}
use Rattle.std.proofs.Common.{◌∙◌, ap, sym}
use Rattle.masks.specs.declared.bitmap.Bitmap.{Bitmap}
use Rattle.dispatch.specs.Reassign.{reassignable}
use Rattle.dispatch.proofs.calling.Answers.{never, yes}
use Rattle.uses.proofs.trucks.is_free.Goals as goal

pub returns-in-Ok-clause-no_mask : goal.returns-in-Ok-clause-no_mask
returns-in-Ok-clause-no_mask c e =
    c.in-Ok.ensures.flag
    ∙ ap (λ (p : Option Bitmap).
    reassignable p c.args.permission_bytes.now c.args.revocation c.args.revocation_bytes.now c.args.truck) e
    ∙ never _ _ _ _

pub returns-in-Ok-clause-permitted : goal.returns-in-Ok-clause-permitted
returns-in-Ok-clause-permitted c t = (yes _ _ _ _ _ (sym c.in-Ok.ensures.flag ∙ t)).permitted

pub returns-in-Ok-clause-kept : goal.returns-in-Ok-clause-kept
returns-in-Ok-clause-kept c t = (yes _ _ _ _ _ (sym c.in-Ok.ensures.flag ∙ t)).kept
