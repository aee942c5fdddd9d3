-- `load-eight`: the eight bytes are an array, and its number has their flags.
use Rattle.std.proofs.lemmas.Result.{MatchResult-at_ok}
use Rattle.words.proofs.word.Loads.{load-eight}
use Rattle.words.proofs.word.full_word.Goals as goal

pub returns : goal.returns
returns c =
    load-eight _ _ _ _ (MatchResult-at_ok _ _ _ c.unwrap-part.ensures c.try_into.ensures.1) (λ i. (c.type_inv.bytes i).fits)
    c.from_le_bytes.ensures
