-- If all checks pass, the span lies in the bytes (`span-allowed`), and there is room for n * repeats flags (`room_of`).
use mathlib.Core.Path.{sym, ◌∙◌}
use native.Mathlib.Omega.{arith}
use Rattle.masks.proofs.checks.CheckLaws.{passed-left, passed-right, span-allowed}
use Rattle.masks.proofs.builder.RoomLaws.{room_of}
use Rattle.masks.proofs.refusal.RefusalLaws.{passed-back}
use Rattle.masks.proofs.builder.BitmapBuilder.extend_each_repeated_from_slice_unchecked.Goals as goal

pub invariant_of-span : goal.invariant_of-span
invariant_of-span c =
    let none = sym c.earlier.ensures.refused ∙ (passed-back _ _ _ c.map_err.ensures.variant c.in_ok-map_err.was) in
    let span = span-allowed _ _ _ (sym c.check_span.ensures.refused ∙ passed-left _ _ none) in
    record { ends = omega (arith, span.starts, span.short); short = span.short; inside = span.inside }

pub append_repeated-requires : goal.append_repeated-requires
append_repeated-requires c =
    let none = sym c.earlier.ensures.refused ∙ (passed-back _ _ _ c.map_err.ensures.variant c.in_ok-map_err.was) in
    room_of _ _ _ (sym c.check_product.ensures ∙ passed-right _ _ none)
