-- The parts of a split fit (`split-bounded`).
use Rattle.std.proofs.Common.{arith}
use Rattle.masks.proofs.aligned.SplitLaws.{Bounded, split-bounded}
use Rattle.masks.proofs.span_ends.SplitSpan.new.Goals as goal

pub invariant_of-result : goal.invariant_of-result
invariant_of-result c =
    let b : Bounded c.split.result = rw c.split.ensures (split-bounded _ _ _ _ (omega arith) (omega arith)) in
    record { prefix_fits = b.prefix_fits; suffix_fits = b.suffix_fits; bulk_starts = b.bulk_starts; bulk_fits = b.bulk_fits }
