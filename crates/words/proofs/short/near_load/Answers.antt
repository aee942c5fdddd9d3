-- `near-all`: eight bytes shifted right by less than a byte.
use Rattle.words.proofs.word.Loads.{near-all}
use Rattle.words.proofs.short.near_load.Goals as goal

pub returns : goal.returns
returns c = near-all _ _ _ _ c.full_word.ensures c.shr_or_zero.ensures
