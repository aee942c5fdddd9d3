-- If all checks pass, there is room for the flag (`room_of`); the first flag of a word of copies is that flag (`constant-front`).
use mathlib.Core.Path.{sym, ap, ◌∙◌}
use native.Mathlib.Omega.{arith}
use Rattle.masks.specs.Builder.{appended}
use Rattle.masks.proofs.builder.AppendLaws.{constant-front, one-copy}
use Rattle.masks.proofs.builder.RoomLaws.{room_of}
use Rattle.masks.proofs.refusal.RefusalLaws.{passed-back}
use Rattle.masks.proofs.builder.BitmapBuilder.push.Goals as goal

pub push_flags-requires : goal.push_flags-requires
push_flags-requires c =
    (omega arith, room_of _ _ _ (sym c.check_builder.ensures ∙ (passed-back _ _ _ c.map_err.ensures.variant c.in_ok-map_err.was)))

pub returns-clause-appended : goal.returns-clause-appended
returns-clause-appended c =
    c.push_flags.ensures ∙ ap (appended _) (constant-front 1 _ _ (omega arith) c.constant_word.ensures ∙ one-copy _)
