-- If all checks pass, the piece lies in the mask and the bytes (`inner-allowed`); a piece inside the mask is a stretch of the bytes
-- (`in_window`).
use mathlib.Core.Path.{sym, ap, ◌∙◌}
use native.Mathlib.Omega.{arith}
use Rattle.words.proofs.flags.Windows.{in_window}
use Rattle.masks.specs.Builder.{appended}
use Rattle.masks.proofs.checks.CheckLaws.{passed-left, passed-right}
use Rattle.masks.proofs.builder.RoomLaws.{room_of, inner-allowed}
use Rattle.masks.proofs.refusal.RefusalLaws.{passed-back}
use Rattle.masks.proofs.builder.BitmapBuilder.subslice_extend_from_bitmap.Goals as goal

pub overflow_add-span : goal.overflow_add-span
overflow_add-span c =
    let none = sym c.earlier-2.ensures.refused ∙ (passed-back _ _ _ c.map_err.ensures.variant c.in_ok-map_err.was) in
    let rest = sym c.earlier.ensures.refused ∙ passed-right _ _ none in
    let ok = inner-allowed _ _ _ _ (sym c.check_mask.ensures.refused ∙ passed-left _ _ none)
    (sym c.check_inner.ensures ∙ passed-left _ _ rest) in
    omega (arith, ok.starts, ok.short, ok.inside)

pub invariant_of-span : goal.invariant_of-span
invariant_of-span c =
    let none = sym c.earlier-2.ensures.refused ∙ (passed-back _ _ _ c.map_err.ensures.variant c.in_ok-map_err.was) in
    let rest = sym c.earlier.ensures.refused ∙ passed-right _ _ none in
    let ok = inner-allowed _ _ _ _ (sym c.check_mask.ensures.refused ∙ passed-left _ _ none)
    (sym c.check_inner.ensures ∙ passed-left _ _ rest) in
    record {
      ends = omega (arith, ok.starts, ok.short, ok.inside);
      short = omega (arith, ok.short, ok.inside);
      inside = omega (arith, ok.lent, ok.inside);
    }

pub append_stretch-requires : goal.append_stretch-requires
append_stretch-requires c =
    let none = sym c.earlier-2.ensures.refused ∙ (passed-back _ _ _ c.map_err.ensures.variant c.in_ok-map_err.was) in
    room_of _ _ _ (sym c.check_builder.ensures ∙ passed-right _ _ (sym c.earlier.ensures.refused ∙ passed-right _ _ none))

pub returns-clause-appended : goal.returns-clause-appended
returns-clause-appended c =
    let none = sym c.earlier-2.ensures.refused ∙ (passed-back _ _ _ c.map_err.ensures.variant c.in_ok-map_err.was) in
    let rest = sym c.earlier.ensures.refused ∙ passed-right _ _ none in
    let ok = inner-allowed _ _ _ _ (sym c.check_mask.ensures.refused ∙ passed-left _ _ none)
    (sym c.check_inner.ensures ∙ passed-left _ _ rest) in
    c.append_stretch.ensures ∙ ap (appended _) (sym (in_window _ _ _ _ _ ok.inside))
