-- `fill-most`: at most 256 words are kept.
use Rattle.std.proofs.Common.{sym, ◌∙◌}
use Rattle.activity.proofs.checks.CheckLaws.{fill-most}
use Rattle.activity.proofs.checks.left_by_minutes.Goals as goal

pub words_fit-requires : goal.words_fit-requires
words_fit-requires c = fill-most _ _ _ (sym c.numbers_fit.ensures ∙ c.if-numbers_fit.true)
