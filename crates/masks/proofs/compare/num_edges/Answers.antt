-- If all checks pass, the start is within the limit (`mask-allowed`), as a span requires.
use mathlib.Core.Path.{sym}
use Rattle.std.proofs.Common.{arith}
use Rattle.masks.proofs.bitmap.MaskLaws.{mask-allowed}
use Rattle.masks.proofs.compare.num_edges.Goals as goal

pub invariant_of-span : goal.invariant_of-span
invariant_of-span c =
    let a = mask-allowed _ _ (sym c.in_ok-check_mask.ensures.refused) in
    record { ends = omega (arith, a.starts, a.short); short = a.short; inside = a.inside }
