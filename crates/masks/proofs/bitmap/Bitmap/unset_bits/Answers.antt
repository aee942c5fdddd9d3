-- A known count that passes its check is the number of zeros (`known-zeros`). If the checks pass, the span is within the limit
-- (`mask-allowed`), as `zeros` requires.
use Rattle.std.proofs.Common.{arith, ℕ, Some}
use mathlib.Core.Path.{sym, ap, ◌∙◌}
use Rattle.masks.specs.Mask.{with_count, zero_count}
use Rattle.masks.proofs.refusal.RefusalLaws.{passed-back}
use Rattle.masks.proofs.bitmap.MaskLaws.{known-zeros, mask-allowed, mask-truthful}
use Rattle.masks.proofs.bitmap.Bitmap.unset_bits.Goals.{in-Some, in-None}
use Rattle.masks.proofs.bitmap.Bitmap.unset_bits.Goals as goal

pub invariant_of-span : goal.invariant_of-span
invariant_of-span c =
    let a = mask-allowed _ _ (sym c.check_mask.ensures.refused ∙ passed-back _ _ _ c.map_err.ensures.variant c.in_ok-map_err.was) in
    record { ends = omega (arith, a.starts, a.short); short = a.short; inside = a.inside }

pub returns-clause-zeros : goal.returns-clause-zeros
unfolding zero_count
returns-clause-zeros c =
    let counts = mask-truthful _ _ (sym c.check_mask.ensures.refused ∙ passed-back _ _ _ c.map_err.ensures.variant c.in_ok-map_err.was) in
    elim c.match-self.branch [
      | in-Some w ↦ w.zeros-is ∙ known-zeros _ _ _ counts w.in-Some.is
      | in-None w ↦ w.zeros-is ∙ w.zeros-zeros.ensures
    ]

pub returns-clause-mask : goal.returns-clause-mask
returns-clause-mask c = c.with_count.ensures ∙ ap (λ (z : ℕ). with_count c.args.self (Some z)) (returns-clause-zeros c)
