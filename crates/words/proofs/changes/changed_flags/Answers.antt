-- The word is put after the last flag of the one before it, and compared with itself (`changed`).
use Rattle.words.proofs.changes.ChangeLaws.{changed}
use Rattle.words.proofs.changes.changed_flags.Goals as goal

pub returns : goal.returns
returns c = changed _ _ _ _ _ c.shr_or_zero-last.ensures c.concat_low-moved.ensures c.xor_word.ensures
