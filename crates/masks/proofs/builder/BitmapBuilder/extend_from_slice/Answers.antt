-- Flags of one load for which the word in progress has room are appended here (`few-inside`), more by the worker.
use Prim.Native.Nat.{◌≤◌}
use mathlib.Core.Path.{ap, ◌∙◌}
use native.Mathlib.Omega.{arith}
use Rattle.words.proofs.word.Loads.{near-first}
use Rattle.masks.specs.Builder.{appended}
use Rattle.masks.proofs.builder.ExtendLaws.{few-inside}
use Rattle.masks.proofs.builder.InsideLaws.{front-padded, inside-padded}
use Rattle.masks.proofs.utils.PartLaws.{length-low}
use Rattle.masks.proofs.builder.RoomLaws.{grow-allowed}
use Rattle.masks.proofs.refusal.RefusalLaws.{passed-back}
use Rattle.masks.proofs.builder.BitmapBuilder.extend_from_slice.Goals as goal

pub push_inside-requires : goal.push_inside-requires
push_inside-requires c =
    let room = (grow-allowed _ _ _ _ _ _ c.check_span_grow.ensures (passed-back _ _ _ c.map_err.ensures.variant c.in_ok-map_err.was)).1 in
    let a = c.args in
    let few = few-inside a.self a.n _ c.one_load_fits.ensures c.if-one_load_fits.true in
    inside-padded _ _ _ _ _ _ room few.1 (length-low _ _ (omega (arith, few.0))) c.low_flags.ensures

pub returns-then-one_load_fits-clause-appended : goal.returns-then-one_load_fits-clause-appended
returns-then-one_load_fits-clause-appended c =
    let a = c.args in
    let few = (few-inside a.self a.n _ c.one_load_fits.ensures c.if-one_load_fits.true).0 in
    let most : a.n ≤ 64 = omega arith in
    c.push_inside.ensures _
    ∙ ap (appended _) (front-padded _ _ _ (length-low _ _ most) most c.low_flags.ensures
    ∙ near-first _ _ _ _ (omega (arith, few)) c.near_word.ensures)

pub invariant_of-span : goal.invariant_of-span
invariant_of-span c =
    let span = (grow-allowed _ _ _ _ _ _ c.check_span_grow.ensures (passed-back _ _ _ c.map_err.ensures.variant c.in_ok-map_err.was)).0 in
    record { ends = omega (arith, span.starts, span.short); short = span.short; inside = span.inside }

pub append_stretch-requires : goal.append_stretch-requires
append_stretch-requires c =
    let allowed = grow-allowed _ _ _ _ _ _ c.check_span_grow.ensures (passed-back _ _ _ c.map_err.ensures.variant c.in_ok-map_err.was) in
    allowed.1
