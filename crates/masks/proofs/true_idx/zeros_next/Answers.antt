-- With a mask, the zeros of its flags; without one there are no zeros.
use mathlib.Core.Bool.{Bool, false}
use mathlib.Core.List.{List}
use mathlib.Core.Path.{sym, ap, ◌∙◌}
use Rattle.masks.specs.Iterator.{leading_from}
use Rattle.masks.proofs.true_idx.TrueIdxLaws.{with-mask, without-mask}
use Rattle.masks.proofs.true_idx.zeros_next.Goals as goal

pub returns-then-cursor : goal.returns-then-cursor
returns-then-cursor c =
    c.zeros_from.ensures ∙ ap (λ (l : List Bool). leading_from false l c.args.cursor.place) (sym (with-mask _ _ c.if-cursor.true))

pub returns : goal.returns
returns c = without-mask _ _ c.if-cursor.false
