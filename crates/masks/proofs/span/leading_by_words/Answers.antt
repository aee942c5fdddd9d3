-- The invariant: the flags from `place` to `at` equal `flag`. A word of such flags keeps it (`alike-more`) or is the last (`alike-last`),
-- another ends the loop (`alike-stop`).
use native.Mathlib.Omega.{arith}
use Rattle.masks.proofs.iterator.IteratorLaws.{alike-stop, alike-more, alike-last, alike-whole}
use Rattle.masks.proofs.span.leading_by_words.Goals.{else-loop-at-test, then-loop-at-test+else-same-k+else-length-at-gt64}
use Rattle.masks.proofs.span.leading_by_words.Goals as goal

pub returns-then-same-k : goal.returns-then-same-k
returns-then-same-k c =
    alike-stop _ _ _ _ _ _ _ _ _ c.loop-at.invariant c.min-k.ensures c.loop-at-test.true
    c.word_from.ensures c.leading_in_word-same.ensures c.if-same-k.true

pub loop-at-preserved : goal.loop-at-preserved
loop-at-preserved c =
    alike-more _ _ _ _ _ _ _ _ _ c.loop-at.invariant c.min-k.ensures c.loop-at-test.true
    c.word_from.ensures c.leading_in_word-same.ensures c.if-same-k.false (omega arith)

pub returns : goal.returns
returns c = elim c.loop-at-test.branch [
  | else-loop-at-test w ↦ alike-whole _ _ _ _ _ _ c.loop-at.invariant w.loop-at-test.false
  | then-loop-at-test+else-same-k+else-length-at-gt64 w ↦
      alike-last _ _ _ _ _ _ _ _ _ c.loop-at.invariant w.min-k.ensures w.loop-at-test.true
      w.word_from.ensures w.leading_in_word-same.ensures w.if-same-k.false (omega arith)
]
