-- `split-all`: the bytes of the word, as many as there is room for.
use Rattle.std.proofs.Common.{◌∙◌, ap, take, length}
use Rattle.words.proofs.word.Loads.{split-all}
use Rattle.words.proofs.word.split.Goals as goal

pub returns : goal.returns
returns c =
    split-all _ _ _ c.requires (c.copy_from_slice.ensures.after ∙ ap (take (length c.args.out.now)) c.to_le_bytes.ensures)
