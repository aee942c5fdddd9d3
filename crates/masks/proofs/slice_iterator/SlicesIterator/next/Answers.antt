-- After the zeros at the place the search found no run (`no_run`) or one (`a-run`).
use mathlib.Core.Path.{sym, ap, ◌∙◌}
use native.Mathlib.Omega.{arith}
use Rattle.words.proofs.flags.Windows.{length-window}
use Rattle.masks.specs.Cursor.{item, ended}
use Rattle.masks.specs.declared.slice_iterator.SlicesIterator.{SlicesIterator}
use Rattle.masks.proofs.cursor.CursorLaws.{cursor-allowed}
use Rattle.masks.proofs.iterator.IteratorLaws.{alike-inside}
use Rattle.masks.proofs.slice_iterator.RunLaws.{a-run, no_run, run_inside}
use Rattle.masks.proofs.refusal.RefusalLaws.{passed-back}
use Rattle.masks.proofs.slice_iterator.SlicesIterator.next.Goals as goal

pub invariant_of-span : goal.invariant_of-span
invariant_of-span c =
    let a = cursor-allowed _ _ _ _ (sym c.check_cursor.ensures ∙ (passed-back _ _ _ c.map_err.ensures.variant c.in_ok-map_err.was)) in
    record { ends = omega (arith, a.starts, a.short); short = a.short; inside = a.inside }

pub zeros_from-requires : goal.zeros_from-requires
zeros_from-requires c =
    let span = cursor-allowed _ _ _ _ (sym c.check_cursor.ensures ∙ (passed-back _ _ _ c.map_err.ensures.variant c.in_ok-map_err.was)) in
    (span.starts, (span.short, span.reached))

pub overflow_add-near : goal.overflow_add-near
overflow_add-near c =
    let span = cursor-allowed _ _ _ _ (sym c.check_cursor.ensures ∙ (passed-back _ _ _ c.map_err.ensures.variant c.in_ok-map_err.was)) in
    omega (arith, alike-inside _ _ _ _ _ _ span.reached c.zeros_from.ensures, span.short)

pub run_from-run-requires : goal.run_from-run-requires
run_from-run-requires c =
    let span = cursor-allowed _ _ _ _ (sym c.check_cursor.ensures ∙ (passed-back _ _ _ c.map_err.ensures.variant c.in_ok-map_err.was)) in
    alike-inside _ _ _ _ _ _ span.reached c.zeros_from.ensures

pub returns-then-run-eq0-clause-step : goal.returns-then-run-eq0-clause-step
returns-then-run-eq0-clause-step c =
    ap (λ (d : SlicesIterator). ended d) c.moved.ensures
    ∙ no_run c.args.self _ _ _ (length-window _ _ _) c.zeros_from.ensures c.run_from-run.ensures c.if-run-eq0.true

pub overflow_add-past : goal.overflow_add-past
overflow_add-past c =
    let span = cursor-allowed _ _ _ _ (sym c.check_cursor.ensures ∙ (passed-back _ _ _ c.map_err.ensures.variant c.in_ok-map_err.was)) in
    let near = alike-inside _ _ _ _ _ _ span.reached c.zeros_from.ensures in
    omega (arith, span.short, run_inside _ _ _ _ (length-window _ _ _) near c.run_from-run.ensures)

pub returns-clause-step : goal.returns-clause-step
returns-clause-step c =
    ap (λ (d : SlicesIterator). item c.run_from-run.result d) c.moved-2.ensures
    ∙ a-run c.args.self _ _ _ (length-window _ _ _) c.zeros_from.ensures c.run_from-run.ensures c.if-run-eq0.false
