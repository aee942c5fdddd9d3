-- If all checks pass, k is at most 64 (`word-allowed`), and there is room for the flags (`room_of`).
use mathlib.Core.Path.{sym, ◌∙◌}
use Rattle.masks.proofs.checks.CheckLaws.{passed-left, passed-right}
use Rattle.masks.proofs.builder.RoomLaws.{room_of, word-allowed}
use Rattle.masks.proofs.refusal.RefusalLaws.{passed-back}
use Rattle.masks.proofs.builder.BitmapBuilder.push_word_with_len_unchecked.Goals as goal

pub push_flags-requires : goal.push_flags-requires
push_flags-requires c =
    let none = sym c.earlier.ensures.refused ∙ (passed-back _ _ _ c.map_err.ensures.variant c.in_ok-map_err.was) in (
      word-allowed _ _ (sym c.check_word.ensures ∙ passed-right _ _ none),
      room_of _ _ _ (sym c.check_builder.ensures ∙ passed-left _ _ none),
    )
