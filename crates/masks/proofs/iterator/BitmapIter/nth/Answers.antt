-- By cases on n and the number of flags left: `no_flag` or `a-flag`.
use mathlib.Core.Path.{sym, ap, ◌∙◌}
use native.Mathlib.Omega.{arith}
use Rattle.masks.specs.Cursor.{item, ended}
use Rattle.masks.specs.declared.iterator.BitmapIter.{BitmapIter}
use Rattle.masks.proofs.cursor.CursorLaws.{cursor-allowed}
use Rattle.masks.proofs.iterator.IteratorLaws.{a-flag, no_flag}
use Rattle.masks.proofs.refusal.RefusalLaws.{passed-back}
use Rattle.masks.proofs.iterator.BitmapIter.nth.Goals as goal

pub overflow_sub-self : goal.overflow_sub-self
overflow_sub-self c =
    (cursor-allowed _ _ _ _ (sym c.check_cursor.ensures ∙ (passed-back _ _ _ c.map_err.ensures.variant c.in_ok-map_err.was))).reached

pub returns-then-n-self-clause-step : goal.returns-then-n-self-clause-step
returns-then-n-self-clause-step c =
    let span = cursor-allowed _ _ _ _ (sym c.check_cursor.ensures ∙ (passed-back _ _ _ c.map_err.ensures.variant c.in_ok-map_err.was)) in
    ap (λ (d : BitmapIter). ended d) c.moved.ensures ∙ no_flag _ _ _ span.reached c.if-n-self.true

pub overflow_add-self : goal.overflow_add-self
overflow_add-self c =
    let span = cursor-allowed _ _ _ _ (sym c.check_cursor.ensures ∙ (passed-back _ _ _ c.map_err.ensures.variant c.in_ok-map_err.was)) in
    omega (arith, span.starts, span.short)

pub returns-clause-step : goal.returns-clause-step
returns-clause-step c =
    ap (λ (d : BitmapIter). item c.flag_at-flag.result d) c.moved-2.ensures ∙ a-flag _ _ _ _ c.if-n-self.false c.flag_at-flag.ensures
