-- No zeros or all zeros (`recounts-no`), else the comparison with the threshold (`recounts-by`).
use Rattle.std.proofs.Common.{ℕ, ap, ◌∙◌, rules}
use Rattle.std.specs.Prelude.{leb}
use Rattle.masks.proofs.bitmap.MaskLaws.{recounts-no, recounts-by}
use Rattle.masks.proofs.bitmap.recounts.Goals as goal

pub returns-then-zeros-old : goal.returns-then-zeros-old
returns-then-zeros-old c =
    ap (λ (x : ℕ). leb x c.max.result) c.saturating_sub.ensures
    ∙ recounts-by _ _ _ _ c.if-zeros-old.true.0 c.if-zeros-old.true.1 c.max.ensures

pub returns-else-zeros-old : goal.returns-else-zeros-old
returns-else-zeros-old c = recounts-no _ _ _ _ c.if-zeros-old.either (search rules)
