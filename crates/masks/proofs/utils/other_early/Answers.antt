-- `all-zeros`, as in `all_flags`, and `early-other`: if an early flag differs, not all flags are equal.
use mathlib.Core.Path.{refl, sym, ◌∙◌}
use Rattle.words.proofs.uniform.UniformLaws.{early-other}
use Rattle.words.proofs.flags.Windows.{length-window}
use Rattle.masks.proofs.utils.PartLaws.{all-zeros}
use Rattle.masks.proofs.utils.other_early.Goals as goal

pub returns : goal.returns
returns c = λ said. sym (all-zeros _ _ _ _ (length-window _ _ _) refl) ∙ early-other _ _ _ _ _ c.differs_early.ensures said
