-- If the checks pass, the masks have equal lengths (`pair_lengths`), so the flags written are the contract's.
use mathlib.Core.Path.{sym}
use Rattle.std.proofs.Common.{rules}
use Rattle.masks.proofs.bitmap_ops.CombineLaws.{each-made, each-written, pair_lengths, constant-length, written-set, written-clear}
use Rattle.masks.proofs.bitmap_ops.select_constant.Goals as goal
use Rattle.masks.proofs.bitmap_ops.select_constant.Goals.{then-flag, else-flag}

pub returns-clause-mask : goal.returns-clause-mask
returns-clause-mask c = each-made _ _ _ _ _ c.not_counted-unset.ensures c.pair_serial-serial.ensures c.mask_under.ensures

pub returns-clause-bytes : goal.returns-clause-bytes
returns-clause-bytes c =
    let a = c.flags-a.ensures in
    let b = c.flags-b.ensures in
    each-written _ _ _ _ (search rules) (search rules)
    (elim c.if-flag.branch [
      | then-flag w ↦ rw w.out-is
          (written-set _ _ _ _ _ _ _ _ w.if-flag.true (rw (a.0, a.1, b.0, b.1) at w.combine.ensures))
      | else-flag w ↦ rw w.out-is
          (written-clear _ _ _ _ _ _ _ _ w.if-flag.false (rw (a.0, a.1, b.0, b.1) at w.combine-else-flag.ensures))
    ])
    (constant-length _ _ _ _ _ _ _ (pair_lengths _ _ _ _ _ (sym c.in_ok-check_pair.ensures)))
