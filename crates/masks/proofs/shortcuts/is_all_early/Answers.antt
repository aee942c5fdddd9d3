-- By cases on the count, as in `is_all`; if an early flag differs, the answer is no at once.
use mathlib.Core.Path.{ap, sym, ◌∙◌}
use mathlib.Core.Bool.{Bool, not}
use mathlib.Core.List.{List}
use lib.Dec.{eqb}
use Rattle.masks.specs.Utils.{zeros}
use Rattle.masks.specs.Workers.{zeros_of_all}
use Rattle.masks.proofs.span.SpanLaws.{whole-stretch}
use Rattle.masks.proofs.shortcuts.is_all_early.Goals as goal

pub returns-in-Some : goal.returns-in-Some
returns-in-Some c = rw (c.in-Some.is, c.zeros_of_all.ensures)

pub returns-else-not-other_early : goal.returns-else-not-other_early
returns-else-not-other_early c =
    rw c.in-None.is (ap not c.if-not-other_early.false ∙ sym (c.other_early.ensures c.if-not-other_early.false))

pub returns-then-not-other_early : goal.returns-then-not-other_early
returns-then-not-other_early c =
    let a = c.args in
    rw c.in-None.is
    (c.all_flags.ensures ∙ ap (λ (l : List Bool). eqb (zeros l) (zeros_of_all a.flag a.mask.length)) (whole-stretch _ _ _))
