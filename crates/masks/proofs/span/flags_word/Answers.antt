-- `low_value`: the k low flags of the word read at `bit`, as a number.
use borrow.Author.Rules.{rules}
use Rattle.masks.proofs.span.SpanLaws.{low_value}
use Rattle.masks.proofs.span.flags_word.Goals as goal

pub returns : goal.returns
returns c = low_value _ _ c.args.k _ _ (search rules) c.requires c.word_from.ensures c.low_flags.ensures
