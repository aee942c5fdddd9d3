-- One law for each branch: no flag, all flags of the word, or the k low ones, shifted to the top of the word and counted there.
use Rattle.std.proofs.Common.{refl}
use Rattle.words.proofs.nth.NthLaws.{ones_none, ones-taken, ones-whole}
use Rattle.words.proofs.word.ones_below.Goals as goal

pub returns-then-k-eq0 : goal.returns-then-k-eq0
returns-then-k-eq0 c = ones_none _ _ c.if-k-eq0.true

pub returns-then-k-gt64 : goal.returns-then-k-gt64
returns-then-k-gt64 c = ones-whole _ _ _ c.if-k-gt64.true c.ones_in_word.ensures

pub returns : goal.returns
returns c = ones-taken _ _ _ c.if-k-gt64.false refl
