-- `shifted`: two windows of one list, eight flags apart, joined by `or`; they agree where they overlap.
use Rattle.words.proofs.merge.Merging.{shifted}
use Rattle.std.proofs.Common.{rules}
use Rattle.words.proofs.word.shifted_word.Goals as goal

pub returns : goal.returns
returns c = shifted _ _ _ _ _ c.requires.1 (search rules) c.full_word.ensures c.full_word-2.ensures
