-- Flags for which the word in progress has room are joined to it: no check fails (`constant-passed`). Else, if all checks pass, there is
-- room for the flags (`room_of`).
use mathlib.Core.Path.{sym, ap, ◌∙◌}
use native.Mathlib.Omega.{arith}
use Rattle.words.proofs.flags.Windows.{length-copies}
use Rattle.masks.specs.Builder.{appended}
use Rattle.masks.proofs.checks.CheckLaws.{passed-left}
use Rattle.masks.proofs.builder.InsideLaws.{constant-passed, front-padded, inside-padded}
use Rattle.masks.proofs.builder.RoomLaws.{room_of}
use Rattle.masks.proofs.refusal.RefusalLaws.{passed-back}
use Rattle.masks.proofs.builder.BitmapBuilder.extend_constant.Goals as goal

pub push_inside-requires : goal.push_inside-requires
push_inside-requires c =
    let ok = c.fast_append_ok.ensures c.if-fast_append_ok.true in
    inside-padded _ _ _ _ _ _ ok.1 ok.0 (length-copies _ _) c.constant_flags.ensures

pub returns-then-fast_append_ok-clause-refused : goal.returns-then-fast_append_ok-clause-refused
returns-then-fast_append_ok-clause-refused c = constant-passed _ _ _ (c.fast_append_ok.ensures c.if-fast_append_ok.true).1

pub returns-then-fast_append_ok-clause-appended : goal.returns-then-fast_append_ok-clause-appended
returns-then-fast_append_ok-clause-appended c =
    let ok = c.fast_append_ok.ensures c.if-fast_append_ok.true in
    c.push_inside.ensures _ ∙ ap (appended _) (front-padded _ _ _ (length-copies _ _) (omega (arith, ok.0)) c.constant_flags.ensures)

pub append_copies-requires : goal.append_copies-requires
append_copies-requires c =
    room_of _ _ _
    (sym c.check_builder.ensures
    ∙ passed-left _ _ (sym c.earlier.ensures.refused ∙ (passed-back _ _ _ c.map_err.ensures.variant c.in_ok-map_err.was)))
