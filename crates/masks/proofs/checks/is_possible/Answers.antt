-- By cases on the tests made: each case fixes the contract's conjunction.
use Rattle.std.proofs.Common.{◌∙◌, sym}
use Rattle.masks.specs.Builder.{possible}
use Rattle.masks.proofs.checks.CheckLaws.{both-tested, first-tested, possible-not, third-decides}
use Rattle.masks.proofs.checks.is_possible.Goals as goal
use Rattle.masks.proofs.checks.is_possible.Goals.{then-none_from, else-none_from}

pub returns-then-b-whole : goal.returns-then-b-whole
unfolding possible
returns-then-b-whole c = elim c.if-none_from.branch [
  | then-none_from w ↦ third-decides _ _ _ (both-tested _ _ _ _ c.none_from.ensures w.if-none_from.true w.value-is ∙ c.if-b-whole.true)
  | else-none_from w ↦ third-decides _ _ _ (first-tested _ _ _ _ c.none_from.ensures w.if-none_from.false w.value-is ∙ c.if-b-whole.true)
]

pub returns-else-b-whole : goal.returns-else-b-whole
returns-else-b-whole c = elim c.if-none_from.branch [
  | then-none_from w ↦ possible-not _ _ _ (sym (both-tested _ _ _ _ c.none_from.ensures w.if-none_from.true w.value-is)) c.if-b-whole.false
  | else-none_from w ↦ possible-not _ _ _ (sym (first-tested _ _ _ _ c.none_from.ensures w.if-none_from.false w.value-is))
      c.if-b-whole.false
]
