-- If the checks pass, the lengths are equal (`select_lengths`), and the kernel's flags are those chosen (`select-each`).
use mathlib.Core.Path.{sym}
use Rattle.std.proofs.Common.{rules}
use Rattle.masks.proofs.bitmap_ops.CombineLaws.{each-made, each-written, select_lengths, select-each}
use Rattle.masks.proofs.bitmap_ops.select.Goals as goal

pub returns-clause-mask : goal.returns-clause-mask
returns-clause-mask c =
    each-made _ _ _ _ _ c.not_counted-unset.ensures c.select_serial-serial.ensures c.mask_under.ensures

pub returns-clause-bytes : goal.returns-clause-bytes
returns-clause-bytes c =
    let same = select_lengths _ _ _ _ _ _ _ (sym c.in_ok-check_select.ensures) in
    let a = c.flags-a.ensures in
    let b = c.flags-b.ensures in
    let f = c.flags-c.ensures in
    each-written _ _ _ _ (search rules) (search rules) (rw (a.0, a.1, b.0, b.1, f.0, f.1) at c.combine.ensures)
    (select-each _ _ _ _ _ _ _ _ _ same.0 same.1)
