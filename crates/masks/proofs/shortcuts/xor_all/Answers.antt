-- By cases on the two tests: each path has the outcomes that it needs.
use mathlib.Core.Path.{sym, ◌∙◌}
use Rattle.masks.proofs.bitmap_ops.CombineLaws.{xor_same, xor_opposite, xor-mixed}
use Rattle.masks.proofs.shortcuts.xor_all.Goals as goal

pub returns-then-is_all_early : goal.returns-then-is_all_early
returns-then-is_all_early c = xor_same _ _ (sym c.is_all_early.ensures ∙ c.if-is_all_early.true)

pub returns-then-is_all : goal.returns-then-is_all
returns-then-is_all c = xor_opposite _ _ (sym c.is_all_early.ensures ∙ c.if-is_all_early.false) (sym c.is_all.ensures ∙ c.if-is_all.true)

pub returns : goal.returns
returns c = xor-mixed _ _ (sym c.is_all_early.ensures ∙ c.if-is_all_early.false) (sym c.is_all.ensures ∙ c.if-is_all.false)
