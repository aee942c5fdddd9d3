-- The definition, by the count.
use Rattle.words.proofs.uniform.UniformLaws.{counted-one, counted-zero}
use Rattle.words.proofs.uniform.all_equal_by_count.Goals as goal

pub returns-then-flag : goal.returns-then-flag
returns-then-flag c = counted-one _ _ _ _ _ c.if-flag.true c.count_ones-ones.ensures

pub returns-else-flag : goal.returns-else-flag
returns-else-flag c = counted-zero _ _ _ _ _ c.if-flag.false c.count_ones-ones.ensures
