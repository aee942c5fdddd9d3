-- `bits-or`, `bits-and` and `bits-not` for the flags of the parts; by `select-flags` these make the choice, flag by flag.
use Rattle.std.proofs.Common.{sym, ◌∙◌}
use Rattle.words.proofs.flags.Bits.{bits-and, bits-or, bits-not, length-bits}
use Rattle.words.proofs.ops.Combining.{select-flags}
use Rattle.words.proofs.ops.select_word.Goals as goal

pub returns : goal.returns
returns c =
    simp (bits-or, bits-and, bits-not 64 _ c.ranges.x.fits)
    (select-flags _ _ _ (length-bits 64 _ ∙ sym (length-bits 64 _)) (length-bits 64 _ ∙ sym (length-bits 64 _)))
