-- `cut_word`: three windows of 64 flags are combined, and cut where the length ends.
use Rattle.words.proofs.ops.Combining.{cut_word}
use Rattle.words.proofs.loops.triple_word.Goals as goal

pub returns : goal.returns
returns c =
    cut_word _ _ _ _ _ _ _ _ _ _ _ _ _ _ c.word-x.ensures c.word-y.ensures c.word-z.ensures c.combine_word.ensures c.low_flags.ensures
