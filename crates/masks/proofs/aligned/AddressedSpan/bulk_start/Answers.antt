-- By cases on the test, which is the definition's; `offset-of` bounds the offset, so the sum fits.
use mathlib.Core.Path.{ap, ◌∙◌}
use Prim.Native.Nat.{ℕ, ◌+◌, ◌/◌}
use native.Mathlib.Omega.{arith}
use Rattle.masks.specs.Aligned.{bulk_start_of}
use Rattle.masks.proofs.checks.CheckLaws.{when-le, when-gt}
use Rattle.masks.proofs.aligned.SplitLaws.{offset-of}
use Rattle.masks.proofs.aligned.AddressedSpan.bulk_start.Goals as goal

pub overflow_add-result : goal.overflow_add-result
overflow_add-result c = omega (arith, c.bulk_offset.ensures, (offset-of c.args.self.now.start c.args.self.now.address).high)

pub returns-then-self-le64 : goal.returns-then-self-le64
unfolding bulk_start_of
returns-then-self-le64 c = when-le _ _ _ _ c.if-self-le64.true

pub returns-else-self-le64 : goal.returns-else-self-le64
unfolding bulk_start_of
returns-else-self-le64 c =
    ap (λ (x : ℕ). c.args.self.now.start / 8 + x) c.bulk_offset.ensures ∙ when-gt _ _ _ _ c.if-self-le64.false
