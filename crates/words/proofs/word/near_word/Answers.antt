-- `near-all`: eight bytes shifted right by less than a byte.
use Rattle.words.proofs.word.Loads.{near-all}
use Rattle.words.proofs.word.near_word.Goals as goal

pub returns : goal.returns
returns c = near-all _ _ _ _ c.byte_word.ensures c.shr_or_zero.ensures
