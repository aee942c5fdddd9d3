-- `any-zeros`: words of zeros, combined, are 64 copies of the operation's flag for three zeros.
use Rattle.std.proofs.Common.{ap, ◌∙◌}
use Rattle.words.specs.Counts.{any_set}
use Rattle.words.proofs.loops.RestLaws.{any-zeros}
use Rattle.words.proofs.counts.past_end.Goals as goal

pub returns : goal.returns
returns c = c.is_set.ensures ∙ ap any_set c.combine_word.ensures ∙ any-zeros _
