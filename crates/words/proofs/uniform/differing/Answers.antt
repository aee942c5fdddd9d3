-- The flags that differ from 1 are the inverted flags (`unlike_one`); those that differ from 0 are the set flags (`unlike_zero`).
use Rattle.words.proofs.uniform.UniformLaws.{unlike_one, unlike_zero}
use Rattle.words.proofs.uniform.differing.Goals as goal

pub returns-then-flag : goal.returns-then-flag
returns-then-flag c = unlike_one _ _ _ c.if-flag.true c.not_word.ensures

pub returns-else-flag : goal.returns-else-flag
returns-else-flag c = unlike_zero _ _ c.if-flag.false
