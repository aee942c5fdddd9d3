-- If all checks pass, the span lies in the bytes (`span-allowed`), and there is room for the flags (`room_of`).
use mathlib.Core.Path.{sym, ◌∙◌}
use native.Mathlib.Omega.{arith}
use Rattle.masks.proofs.checks.CheckLaws.{passed-left, passed-right, span-allowed}
use Rattle.masks.proofs.builder.RoomLaws.{room_of}
use Rattle.masks.proofs.refusal.RefusalLaws.{passed-back}
use Rattle.masks.proofs.builder.BitmapBuilder.opt_gather_extend_from_slice.Goals as goal

pub invariant_of-span : goal.invariant_of-span
invariant_of-span c =
    let none = sym c.earlier.ensures.refused ∙ (passed-back _ _ _ c.map_err.ensures.variant c.in_ok-map_err.was) in
    let span = span-allowed _ _ _ (sym c.check_span.ensures.refused ∙ passed-left _ _ none) in
    record { ends = omega (arith, span.starts, span.short); short = span.short; inside = span.inside }

pub append_gathered-requires : goal.append_gathered-requires
append_gathered-requires c =
    let none = sym c.earlier.ensures.refused ∙ (passed-back _ _ _ c.map_err.ensures.variant c.in_ok-map_err.was) in
    room_of _ _ _ (sym c.check_builder.ensures ∙ passed-right _ _ none)
