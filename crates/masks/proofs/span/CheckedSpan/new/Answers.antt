-- If all checks pass, the span's facts hold (`span-allowed`).
use mathlib.Core.Path.{sym}
use Rattle.std.proofs.Common.{arith}
use Rattle.masks.proofs.checks.CheckLaws.{span-allowed}
use Rattle.masks.proofs.span.CheckedSpan.new.Goals as goal

pub invariant_of-result : goal.invariant_of-result
invariant_of-result c =
    let a = span-allowed _ _ _ (sym c.in_ok-check_span.ensures.refused) in
    record { ends = omega (arith, a.starts, a.short); short = a.short; inside = a.inside }
