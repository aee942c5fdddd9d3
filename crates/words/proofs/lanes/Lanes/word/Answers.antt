-- `zip_word`: the words of the three, combined, are a word of the three combined.
use Rattle.std.proofs.Common.{arith, refl}
use Rattle.words.proofs.ops.Combining.{zip_word}
use Rattle.words.proofs.lanes.Lanes.word.Goals as goal

pub returns : goal.returns
returns g c =
    zip_word _ _ _ _ _ _ _ _ _ _ _ _ _ _ _ _ (omega arith) refl refl refl c.word-x.ensures c.word-y.ensures c.word-z.ensures c.word.ensures
