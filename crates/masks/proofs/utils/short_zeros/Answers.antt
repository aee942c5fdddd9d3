-- All flags are in the one word that is loaded (`near_word`), and the zeros are the flags that are not set (`zeros-rest`).
use mathlib.Core.Path.{ap, ◌∙◌}
use Rattle.words.specs.Flags.{count}
use Rattle.words.proofs.flags.Windows.{length-window}
use Rattle.words.proofs.word.Loads.{near-first}
use Rattle.masks.proofs.utils.PartLaws.{ones-most, zeros-rest}
use Rattle.masks.proofs.utils.short_zeros.Goals as goal

pub overflow_sub-result : goal.overflow_sub-result
overflow_sub-result c =
    ones-most _ _ _ (length-window _ _ _) (c.ones_below.ensures ∙ ap count (near-first _ _ _ _ c.requires c.near_word.ensures))

pub returns : goal.returns
returns c =
    zeros-rest _ _ _ (length-window _ _ _) (c.ones_below.ensures ∙ ap count (near-first _ _ _ _ c.requires c.near_word.ensures))
