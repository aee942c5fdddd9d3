-- The first mask is all zero (`xor-clear`), all one (`xor-full`), or neither (`xor-other`).
use mathlib.Core.Path.{sym, ◌∙◌}
use Rattle.masks.proofs.bitmap_ops.CombineLaws.{xor-clear, xor-full, xor-other}
use Rattle.masks.proofs.shortcuts.xor_shortcut.Goals as goal

pub returns-then-is_all_early : goal.returns-then-is_all_early
returns-then-is_all_early c = xor-clear _ _ _ _ _ c.requires (sym c.is_all_early.ensures ∙ c.if-is_all_early.true) c.xor_all.ensures

pub returns-then-is_all_early-2 : goal.returns-then-is_all_early-2
returns-then-is_all_early-2 c =
    xor-full _ _ _ _ _ c.requires (sym c.is_all_early.ensures ∙ c.if-is_all_early.false)
    (sym c.is_all_early-2.ensures ∙ c.if-is_all_early-2.true) c.xor_all-then-is_all_early-2.ensures

pub returns : goal.returns
returns c =
    xor-other _ _ _ (sym c.is_all_early.ensures ∙ c.if-is_all_early.false) (sym c.is_all_early-2.ensures ∙ c.if-is_all_early-2.false)
