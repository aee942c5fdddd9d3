-- The sum of the two calls' results; zeros are at most the flags counted (`zeros-most`), so it fits.
use Rattle.words.proofs.flags.Windows.{length-window}
use Rattle.masks.proofs.utils.PartLaws.{zeros-most}
use mathlib.Core.Path.{ap₂}
use Prim.Native.Nat.{ℕ, ◌+◌}
use native.Mathlib.Omega.{arith}
use Rattle.masks.proofs.span.CheckedSpan.cut_zeros.Goals as goal

pub overflow_add-result : goal.overflow_add-result
overflow_add-result c =
    let front = c.front-before.ensures in
    omega (
      arith,
      front.1.1,
      zeros-most _ _ _ (length-window _ _ _) c.zeros.ensures,
      zeros-most _ _ _ (length-window _ _ _) c.zeros-2.ensures,
      c.requires,
    )

pub returns : goal.returns
returns c =
    let front = c.front-before.ensures in
    ap₂ (λ (x y : ℕ). x + y) (rw (front.0, front.1.0, front.1.1) at c.zeros.ensures) c.zeros-2.ensures
