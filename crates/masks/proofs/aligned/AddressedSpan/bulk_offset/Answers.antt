-- By cases on the test, which is the definition's.
use Rattle.masks.specs.Aligned.{bulk_offset}
use Rattle.masks.proofs.checks.CheckLaws.{when-le, when-gt}
use Rattle.masks.proofs.aligned.AddressedSpan.bulk_offset.Goals as goal

pub returns-then-self-to_aligned : goal.returns-then-self-to_aligned
unfolding bulk_offset
returns-then-self-to_aligned c = when-le _ _ _ _ c.if-self-to_aligned.true

pub returns-else-self-to_aligned : goal.returns-else-self-to_aligned
unfolding bulk_offset
returns-else-self-to_aligned c = when-gt _ _ _ _ c.if-self-to_aligned.false
