-- The run of equal flags ends inside the span (`alike-inside`), so the place fits.
use mathlib.Core.Path.{sym, ap, ◌∙◌}
use Prim.Native.Nat.{ℕ, ◌+◌}
use native.Mathlib.Omega.{arith}
use Rattle.masks.specs.Iterator.{moved_to}
use Rattle.masks.proofs.cursor.CursorLaws.{cursor-allowed}
use Rattle.masks.proofs.iterator.IteratorLaws.{alike-inside}
use Rattle.masks.proofs.refusal.RefusalLaws.{passed-back}
use Rattle.masks.proofs.iterator.BitmapIter.take_leading.Goals as goal

pub leading_from-taken-requires : goal.leading_from-taken-requires
leading_from-taken-requires c =
    let span = cursor-allowed _ _ _ _ (sym c.check_cursor.ensures ∙ (passed-back _ _ _ c.map_err.ensures.variant c.in_ok-map_err.was)) in
    (span.starts, (span.short, span.reached))

pub overflow_add-past : goal.overflow_add-past
overflow_add-past c =
    let span = cursor-allowed _ _ _ _ (sym c.check_cursor.ensures ∙ (passed-back _ _ _ c.map_err.ensures.variant c.in_ok-map_err.was)) in
    omega (arith, alike-inside _ _ _ _ _ _ span.reached c.leading_from-taken.ensures, span.short)

pub returns-clause-cursor : goal.returns-clause-cursor
returns-clause-cursor c =
    let me = c.args.self in c.moved.ensures ∙ ap (λ (k : ℕ). moved_to me (me.place + k)) c.leading_from-taken.ensures
