-- By cases on the mask's count: recounted (`cut-known`), kept or unknown; the check closes the goals of the last two by itself.
use Rattle.masks.specs.Mask.{cut_zeros}
use Rattle.masks.proofs.bitmap.MaskLaws.{cut-known}
use Rattle.std.proofs.Common.{arith}
use mathlib.Core.Path.{sym, ◌∙◌}
use Rattle.masks.proofs.bitmap.cut_count.Goals as goal

pub returns-then-recounts : goal.returns-then-recounts
unfolding cut_zeros
returns-then-recounts c =
    cut-known _ _ _ _ _ _ _ c.in-Some.is (sym c.recounts.ensures ∙ c.if-recounts.true) c.recount.ensures c.cut_zeros.ensures

pub invariant_of-span : goal.invariant_of-span
invariant_of-span c =
    let a = c.requires in
    record { ends = omega (arith, a.starts, a.short); short = a.short; inside = a.lent }

pub cut_zeros-requires : goal.cut_zeros-requires
cut_zeros-requires c = c.requires.inside
