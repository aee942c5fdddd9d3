-- After the zeros at the place the span ends (`no_one`) or a one follows (`a_one`).
use mathlib.Core.Path.{sym, ap, ◌∙◌}
use native.Mathlib.Omega.{arith}
use Prim.Native.Nat.{◌+◌}
use Rattle.masks.specs.Cursor.{item, ended}
use Rattle.masks.specs.declared.true_idx.TrueIdxIter.{TrueIdxIter}
use Rattle.masks.proofs.true_idx.TrueIdxLaws.{true-allowed, a_one, no_one, zeros_within}
use Rattle.masks.proofs.refusal.RefusalLaws.{passed-back}
use Rattle.masks.proofs.true_idx.TrueIdxIter.next.Goals as goal

pub zeros_next-requires : goal.zeros_next-requires
zeros_next-requires c =
    let a = true-allowed _ _ (sym c.check_next.ensures ∙ (passed-back _ _ _ c.map_err.ensures.variant c.in_ok-map_err.was)) in
    (a.starts, (a.short, a.reached))

pub overflow_add-position : goal.overflow_add-position
overflow_add-position c =
    let a = true-allowed _ _ (sym c.check_next.ensures ∙ (passed-back _ _ _ c.map_err.ensures.variant c.in_ok-map_err.was)) in
    omega (arith, a.short, a.reached, zeros_within _ _ _ c.zeros_next.ensures)

pub returns-then-position-self-clause-step : goal.returns-then-position-self-clause-step
returns-then-position-self-clause-step c =
    ap (λ (d : TrueIdxIter). ended d) c.moved.ensures ∙ no_one _ _ _ c.zeros_next.ensures c.if-position-self.true

pub returns-clause-step : goal.returns-clause-step
returns-clause-step c =
    ap (λ (d : TrueIdxIter). item (c.args.self.place + c.zeros_next.result) d) c.moved-2.ensures
    ∙ a_one _ _ _ c.zeros_next.ensures c.if-position-self.false
