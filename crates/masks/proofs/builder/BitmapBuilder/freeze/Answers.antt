-- If all checks pass, there is room for the flags (`room_of`), and the ones are at most the length (`ones-fit`).
use mathlib.Core.Path.{sym, ◌∙◌}
use Rattle.masks.proofs.builder.FreezeLaws.{ones-fit}
use Rattle.masks.proofs.builder.RoomLaws.{room_of}
use Rattle.masks.proofs.refusal.RefusalLaws.{passed-back}
use Rattle.masks.proofs.builder.BitmapBuilder.freeze.Goals as goal

pub finish-requires : goal.finish-requires
finish-requires c = room_of _ _ _ (sym c.check_builder.ensures ∙ (passed-back _ _ _ c.map_err.ensures.variant c.in_ok-map_err.was))

pub frozen_mask-requires : goal.frozen_mask-requires
frozen_mask-requires c =
    ones-fit _ _ _ (room_of _ _ _ (sym c.check_builder.ensures ∙ (passed-back _ _ _ c.map_err.ensures.variant c.in_ok-map_err.was)))
