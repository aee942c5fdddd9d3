-- All bytes, if there are fewer than eight, or the last eight, are loaded and shifted right.
use Rattle.std.proofs.Common.{arith}
use Rattle.words.proofs.word.Loads.{at-few, at_last}
use Rattle.words.proofs.word.last_word.Goals as goal

pub returns-then-n-lt8 : goal.returns-then-n-lt8
returns-then-n-lt8 c = at-few _ _ _ _ c.if-n-lt8.true c.join.ensures c.shr_or_zero.ensures

pub returns : goal.returns
returns c = at_last _ _ _ _ _ c.if-n-lt8.false (omega arith) (omega arith) c.full_word.ensures c.shr_or_zero-2.ensures
