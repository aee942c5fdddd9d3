-- `all-low`: no flag that differs is among the k low ones.
use Rattle.words.proofs.uniform.UniformLaws.{all-low}
use Rattle.words.proofs.uniform.low_all_equal.Goals as goal

pub returns : goal.returns
returns c = all-low _ c.args.k _ _ _ _ c.differing.ensures c.low_flags.ensures c.is_set.ensures
