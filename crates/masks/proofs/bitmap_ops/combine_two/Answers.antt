-- The count follows from the shortcut, which after the `match` is still the one that was found before it (`same`), and the bytes from the
-- flags written (`pair-made`, `pair-written`).
use mathlib.Core.Path.{◌≡◌, sym, ◌∙◌}
use Rattle.std.proofs.Common.{rules}
use Rattle.masks.proofs.bitmap_ops.CombineLaws.{pair_lengths, pair-made, pair-written, true-shortcut}
use Rattle.masks.proofs.bitmap_ops.combine_two.Goals as goal
use Rattle.masks.proofs.bitmap_ops.combine_two.Goals.{in-Some, in-None}

pub pair_shortcut-shortcut-requires : goal.pair_shortcut-shortcut-requires
pair_shortcut-shortcut-requires c = pair_lengths _ _ _ _ _ (sym c.in_ok-check_pair.ensures)

pub returns-clause-mask : goal.returns-clause-mask
returns-clause-mask c =
    let found = c.pair_shortcut-shortcut.ensures ∙ true-shortcut _ _ _ _ _ _ (sym c.in_ok-check_pair.ensures) in
    let same : c.match-shortcut.shortcut ≡ c.pair_shortcut-shortcut.result =
    elim c.match-shortcut.branch [ in-Some w ↦ w.shortcut-is ∙ sym w.in-Some.is | in-None w ↦ w.shortcut-is ] in
    pair-made _ _ _ _ _ _ _ _ _ (same ∙ found) c.result_count-unset.ensures c.pair_serial-serial.ensures
    c.mask_under.ensures

pub returns-clause-bytes : goal.returns-clause-bytes
returns-clause-bytes c =
    let passed = sym c.in_ok-check_pair.ensures in
    pair-written _ _ _ _ _ _ passed _ _ (c.pair_shortcut-shortcut.ensures ∙ true-shortcut _ _ _ _ _ _ passed) (search rules) (search rules)
    (elim c.match-shortcut.branch [
      | in-Some w ↦ rw (w.in-Some.is, w.out-is) w.fill.ensures
      | in-None w ↦ rw (w.in-None.is, w.out-is)
          (rw (c.flags-a.ensures.0, c.flags-a.ensures.1, c.flags-b.ensures.0, c.flags-b.ensures.1) at w.combine.ensures)
    ])
