-- By cases on the arms and the guard, which are the tests of the definition.
use mathlib.Core.Path.{◌≡◌, ◌∙◌}
use native.Mathlib.Omega.{arith}
use Rattle.masks.specs.Mask.{kept_count}
use Rattle.masks.proofs.checks.CheckLaws.{when-eq, when-ne}
use Rattle.masks.proofs.bitmap.kept_count.Goals as goal

pub returns-in-0 : goal.returns-in-0
unfolding kept_count
returns-in-0 c = when-eq _ _ _ _ c.in-0.is

pub returns-in_default : goal.returns-in_default
unfolding kept_count
returns-in_default c = when-eq _ _ _ _ c.if-zeros-old.true ∙ when-ne _ _ _ _ (λ (e : c.args.zeros ≡ 0). omega arith)

pub returns-in_default-2 : goal.returns-in_default-2
unfolding kept_count
returns-in_default-2 c = when-ne _ _ _ _ c.if-zeros-old.false ∙ when-ne _ _ _ _ (λ (e : c.args.zeros ≡ 0). omega arith)
