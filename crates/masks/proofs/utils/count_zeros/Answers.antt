-- A span of no flags has no zeros (`zeros-none`). If the checks pass, the start is within the limit (`aligned-allowed`).
use mathlib.Core.Path.{sym}
use native.Mathlib.Omega.{arith}
use Rattle.masks.proofs.aligned.SplitLaws.{aligned-allowed}
use Rattle.masks.proofs.utils.PartLaws.{zeros-none}
use Rattle.masks.proofs.utils.count_zeros.Goals as goal

pub returns-then-length-eq0-clause-zeros : goal.returns-then-length-eq0-clause-zeros
returns-then-length-eq0-clause-zeros c = sym (zeros-none _ _ _ c.if-length-eq0.true)

pub overflow_add-start : goal.overflow_add-start
overflow_add-start c =
    let a = aligned-allowed _ _ _ _ (sym c.in_ok-check_aligned.ensures) in omega (arith, a.0, a.1.0)

pub zeros_at-requires : goal.zeros_at-requires
zeros_at-requires c =
    let a = aligned-allowed _ _ _ _ (sym c.in_ok-check_aligned.ensures) in
    (omega (arith, a.0), a.1)
