-- By cases on the test, which is the definition's; `offset-of` bounds the offset, so product and difference fit.
use mathlib.Core.Path.{ap, ◌∙◌}
use Prim.Native.Nat.{ℕ, ◌*◌, ◌-◌, ◌%◌}
use native.Mathlib.Omega.{arith}
use Rattle.masks.specs.Aligned.{prefix_length}
use Rattle.masks.proofs.checks.CheckLaws.{when-le, when-gt}
use Rattle.masks.proofs.aligned.SplitLaws.{offset-of}
use Rattle.masks.proofs.aligned.AddressedSpan.prefix_length.Goals as goal

pub overflow_mul-result : goal.overflow_mul-result
overflow_mul-result c = omega (arith, c.bulk_offset.ensures, (offset-of c.args.self.now.start c.args.self.now.address).high)

pub overflow_sub-result : goal.overflow_sub-result
overflow_sub-result c = omega (arith, c.bulk_offset.ensures, (offset-of c.args.self.now.start c.args.self.now.address).low)

pub returns-then-self-le64 : goal.returns-then-self-le64
unfolding prefix_length
returns-then-self-le64 c = when-le _ _ _ _ c.if-self-le64.true

pub returns-else-self-le64 : goal.returns-else-self-le64
unfolding prefix_length
returns-else-self-le64 c =
    ap (λ (x : ℕ). 8 * x - c.args.self.now.start % 8) c.bulk_offset.ensures ∙ when-gt _ _ _ _ c.if-self-le64.false
