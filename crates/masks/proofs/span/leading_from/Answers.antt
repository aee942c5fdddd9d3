-- A flag that differs in the first word, else word by word.
use native.Mathlib.Omega.{arith}
use Rattle.masks.proofs.builder.ExtendLaws.{stretch-front}
use Rattle.masks.proofs.iterator.IteratorLaws.{word-alike}
use Rattle.masks.proofs.span.leading_from.Goals as goal

pub returns-then-same-k : goal.returns-then-same-k
returns-then-same-k c =
    let a = c.args in
    word-alike _ _ a.start a.length a.place _ _ _ (omega (arith, c.min-k.ensures))
    (stretch-front _ _ _ _ (omega (arith, c.min-k.ensures)) c.word_from.ensures)
    c.leading_in_word-same.ensures c.if-same-k.true
