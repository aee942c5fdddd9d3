-- All flags are in the one word that is loaded (`near_word`).
use mathlib.Core.Path.{ap, ◌∙◌}
use Rattle.words.proofs.word.Loads.{near-first}
use Rattle.masks.proofs.utils.short_run.Goals as goal

pub returns : goal.returns
returns g c = c.in_word.ensures ∙ ap (g.E.End.run c.args.flag) (near-first _ _ _ _ c.requires c.near_word.ensures)
