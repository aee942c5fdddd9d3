-- Refused by the piece's checks, refused by check 7 if the recount is wrong, or given: the number, and the mask.
use Rattle.std.proofs.Common.{rules, Ok, Err, ◌≡◌}
use native.Mathlib.Omega.{arith}
use mathlib.Core.Path.{sym, ap, ◌∙◌}
use Rattle.masks.specs.Refusal.{failure_of}
use Rattle.masks.specs.declared.refusal.Refusal.{Refusal}
use Rattle.masks.proofs.bitmap.MaskLaws.{cut-error, piece-allowed, slice-refused, slice_wrong, slice-right}
use Rattle.masks.proofs.refusal.RefusalLaws.{back-err, back-number, failed-back, passed-back, with_state}
use Rattle.masks.proofs.bitmap.Bitmap.slice.Goals as goal

pub returns-in_err-map_err-clause-refused : goal.returns-in_err-map_err-clause-refused
returns-in_err-map_err-clause-refused c =
    let was : Err c.in_err-map_err.field-0.0 ≡ with_state c.check_piece.result c.args.self = search rules in
    back-number _ _ _ was _ c.from_residual.ensures.1 ∙ slice-refused _ _ _ _ _ c.check_piece.ensures (failed-back _ _ _ was)

pub overflow_add-start : goal.overflow_add-start
overflow_add-start c =
    let a = piece-allowed _ _ _ _ (sym c.check_piece.ensures ∙ (passed-back _ _ _ c.map_err.ensures.variant c.in_ok-map_err.was)) in
    omega (arith, a.starts, a.short, a.inside)

pub cut_count-requires : goal.cut_count-requires
cut_count-requires c = piece-allowed _ _ _ _ (sym c.check_piece.ensures ∙ passed-back _ _ _ c.map_err.ensures.variant c.in_ok-map_err.was)

pub returns-in_err-unset-clause-refused : goal.returns-in_err-unset-clause-refused
returns-in_err-unset-clause-refused c =
    let was : Err c.in_err-unset.field-0.0 ≡ with_state c.cut_count.result c.args.self = search rules in
    let is = (back-err _ _ _ was).0 in
    let wrong = cut-error _ _ _ _ _ (sym c.cut_count.ensures ∙ is) in
    back-number _ _ _ was _ c.from_residual-in_err-unset.ensures.1
    ∙ ap failure_of (is ∙ ap (λ (r : Refusal). Err r) wrong.1)
    ∙ slice_wrong _ _ _ _ _ c.check_piece.ensures (passed-back _ _ _ c.map_err.ensures.variant c.in_ok-map_err.was) wrong.0

pub returns-clause-refused : goal.returns-clause-refused
returns-clause-refused c =
    let was : c.cut_count.result ≡ Ok c.in_ok-unset.unset = search rules in
    (slice-right _ _ _ _ _ c.check_piece.ensures _ (passed-back _ _ _ c.map_err.ensures.variant c.in_ok-map_err.was)
    (sym was ∙ c.cut_count.ensures)).0

pub returns-clause-mask : goal.returns-clause-mask
returns-clause-mask c =
    let was : c.cut_count.result ≡ Ok c.in_ok-unset.unset = search rules in
    c.cut_mask.ensures
    ∙ (slice-right _ _ _ _ _ c.check_piece.ensures _ (passed-back _ _ _ c.map_err.ensures.variant c.in_ok-map_err.was)
    (sym was ∙ c.cut_count.ensures)).1
