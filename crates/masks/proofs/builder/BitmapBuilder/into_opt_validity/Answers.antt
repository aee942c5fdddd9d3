-- If all checks pass, there is room for the flags (`room_of`), and the ones are at most the length (`ones-fit`). Then by cases on the ones
-- and the length: `all_set` or `not-all-set`.
use mathlib.Core.Path.{sym, ◌∙◌}
use Rattle.masks.proofs.builder.FreezeLaws.{ones-fit, all_set, not-all-set}
use Rattle.masks.proofs.builder.RoomLaws.{room_of}
use Rattle.masks.proofs.refusal.RefusalLaws.{passed-back}
use Rattle.masks.proofs.builder.BitmapBuilder.into_opt_validity.Goals as goal

pub finish-requires : goal.finish-requires
finish-requires c = room_of _ _ _ (sym c.check_builder.ensures ∙ (passed-back _ _ _ c.map_err.ensures.variant c.in_ok-map_err.was))

pub total_ones-requires : goal.total_ones-requires
total_ones-requires c =
    ones-fit _ _ _ (room_of _ _ _ (sym c.check_builder.ensures ∙ (passed-back _ _ _ c.map_err.ensures.variant c.in_ok-map_err.was)))

pub returns-then-total_ones-self-clause-mask : goal.returns-then-total_ones-self-clause-mask
returns-then-total_ones-self-clause-mask c = all_set c.args.self _ c.total_ones.ensures c.if-total_ones-self.true

pub frozen_mask-requires : goal.frozen_mask-requires
frozen_mask-requires c =
    ones-fit _ _ _ (room_of _ _ _ (sym c.check_builder.ensures ∙ (passed-back _ _ _ c.map_err.ensures.variant c.in_ok-map_err.was)))

pub returns-clause-mask : goal.returns-clause-mask
returns-clause-mask c = not-all-set c.args.self _ _ c.total_ones.ensures c.if-total_ones-self.false c.frozen_mask.ensures
