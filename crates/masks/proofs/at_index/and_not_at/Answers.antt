-- If all checks pass, the index lies in each mask (`passed-masks`), and the flag is that of the definition.
use mathlib.Core.Path.{sym, ap₂, ◌∙◌}
use mathlib.Core.Bool.{Bool, not, ◌&&◌}
use Rattle.masks.specs.AtIndex.{and_not_flag}
use Rattle.masks.proofs.at_index.AtIndexLaws.{passed-masks}
use Rattle.masks.proofs.at_index.and_not_at.Goals as goal

pub flag_or-own-requires : goal.flag_or-own-requires
flag_or-own-requires c = (passed-masks _ _ _ _ _ (sym c.in_ok-check_and_not_at.ensures)).0

pub flag_or-taken-requires : goal.flag_or-taken-requires
flag_or-taken-requires c = (passed-masks _ _ _ _ _ (sym c.in_ok-check_and_not_at.ensures)).1

pub returns-then-own-clause-flag : goal.returns-then-own-clause-flag
unfolding and_not_flag
returns-then-own-clause-flag c =
    ap₂ (λ (x y : Bool). x && not y) (sym c.if-own.true ∙ c.flag_or-own.ensures) c.flag_or-taken.ensures

pub returns-else-own-clause-flag : goal.returns-else-own-clause-flag
unfolding and_not_flag
returns-else-own-clause-flag c =
    c.if-own.false ∙ ap₂ (λ (x y : Bool). x && not y) (sym c.if-own.false ∙ c.flag_or-own.ensures) c.flag_or-taken.ensures
