-- If all checks pass, the span lies in the bytes (`span-allowed`), and there is room for the flags (`room_of`).
use Rattle.std.proofs.Common.{rules}
use mathlib.Core.Path.{sym, ◌∙◌}
use native.Mathlib.Omega.{arith}
use Rattle.masks.specs.Appends.{span_grow_checks, gather_checks}
use Rattle.masks.proofs.checks.CheckLaws.{one-check, two_pieces, passed-left, passed-right, span-allowed}
use Rattle.masks.proofs.builder.RoomLaws.{room_of}
use Rattle.masks.proofs.refusal.RefusalLaws.{back-number, passed-back}
use Rattle.masks.proofs.builder.BitmapBuilder.gather_extend_from_slice.Goals as goal

pub returns-in_err-map_err-clause-refused : goal.returns-in_err-map_err-clause-refused
unfolding gather_checks span_grow_checks
returns-in_err-map_err-clause-refused c =
    back-number _ c.args.self _ (search rules) _ c.from_residual.ensures.1
    ∙ two_pieces _ _ _ _ _ c.earlier-2.ensures.refused
    (two_pieces _ _ _ _ _ c.earlier.ensures.refused c.check_span.ensures.refused c.check_builder.ensures)
    (one-check _ _ _ _ c.check.ensures.refused c.all_below.ensures)

pub invariant_of-span : goal.invariant_of-span
invariant_of-span c =
    let none =
    sym c.earlier.ensures.refused
    ∙ passed-left _ _ (sym c.earlier-2.ensures.refused ∙ (passed-back _ _ _ c.map_err.ensures.variant c.in_ok-map_err.was)) in
    let span = span-allowed _ _ _ (sym c.check_span.ensures.refused ∙ passed-left _ _ none) in
    record { ends = omega (arith, span.starts, span.short); short = span.short; inside = span.inside }

pub append_gathered-requires : goal.append_gathered-requires
append_gathered-requires c =
    let none =
    sym c.earlier.ensures.refused
    ∙ passed-left _ _ (sym c.earlier-2.ensures.refused ∙ (passed-back _ _ _ c.map_err.ensures.variant c.in_ok-map_err.was)) in
    room_of _ _ _ (sym c.check_builder.ensures ∙ passed-right _ _ none)

pub returns-clause-refused : goal.returns-clause-refused
unfolding gather_checks span_grow_checks
returns-clause-refused c =
    sym (passed-back _ _ _ c.map_err.ensures.variant c.in_ok-map_err.was)
    ∙ two_pieces _ _ _ _ _ c.earlier-2.ensures.refused
    (two_pieces _ _ _ _ _ c.earlier.ensures.refused c.check_span.ensures.refused c.check_builder.ensures)
    (one-check _ _ _ _ c.check.ensures.refused c.all_below.ensures)
