-- `all-zeros`: the words crate counts the ones, the definition the zeros.
use Rattle.words.proofs.flags.Windows.{length-window}
use Rattle.masks.proofs.utils.PartLaws.{all-zeros}
use Rattle.capi.proofs.short.is_full.Goals as goal

pub returns : goal.returns
returns c = all-zeros _ _ _ _ (length-window _ _ _) c.all_near.ensures
