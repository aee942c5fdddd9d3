-- `all-zeros`: the words crate counts the ones, this one the zeros.
use Rattle.words.proofs.flags.Windows.{length-window}
use Rattle.masks.proofs.utils.PartLaws.{all-zeros}
use Rattle.masks.proofs.utils.all_flags.Goals as goal

pub returns : goal.returns
returns c = all-zeros _ _ _ _ (length-window _ _ _) c.all_equal.ensures
