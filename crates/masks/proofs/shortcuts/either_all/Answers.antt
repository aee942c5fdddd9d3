-- By cases on the first mask (`either_first`), then on the second (`either_second`).
use Rattle.std.specs.Bool.{then_some}
use mathlib.Core.Bool.{Bool}
use mathlib.Core.Path.{sym, ap, ◌∙◌}
use Rattle.masks.proofs.bitmap_ops.CombineLaws.{either_first, either_second}
use Rattle.masks.proofs.shortcuts.either_all.Goals as goal
use Rattle.masks.proofs.shortcuts.either_all.Goals.{then-is_all_early, else-is_all_early}

pub returns : goal.returns
returns c = c.then_some.ensures ∙ elim c.if-is_all_early.branch [
  | then-is_all_early w ↦
      ap (λ (b : Bool). then_some b c.args.flag) (w.then_some-is ∙ w.if-is_all_early.true)
      ∙ either_first _ _ _ (sym c.is_all_early.ensures ∙ w.if-is_all_early.true)
  | else-is_all_early w ↦
      ap (λ (b : Bool). then_some b c.args.flag) (w.then_some-is ∙ w.is_all_early-else-is_all_early.ensures)
      ∙ either_second _ _ _ (sym c.is_all_early.ensures ∙ w.if-is_all_early.false)
]
