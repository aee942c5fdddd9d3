-- The ones of the split are the span's (`split-count`), and its zeros are the other flags (`zeros-rest`).
use Rattle.std.proofs.Common.{arith, ap, ◌∙◌}
use Rattle.words.proofs.flags.Windows.{length-window}
use Rattle.words.specs.Flags.{count}
use Rattle.masks.specs.Workers.{split_flags}
use Rattle.masks.proofs.utils.PartLaws.{ones-most, zeros-rest}
use Rattle.masks.proofs.aligned.SplitLaws.{split-count}
use Rattle.masks.proofs.utils.long_zeros.Goals as goal

pub overflow_sub-result : goal.overflow_sub-result
overflow_sub-result c =
    let e = c.ones.ensures ∙ ap (λ b. count (split_flags b c.new.result.parts)) c.new.ensures.bytes in
    omega (arith, ones-most _ _ _ (length-window _ _ _) (split-count _ _ _ _ _ _ c.new.ensures.parts e))

pub returns : goal.returns
returns c =
    let e = c.ones.ensures ∙ ap (λ b. count (split_flags b c.new.result.parts)) c.new.ensures.bytes in
    zeros-rest _ _ _ (length-window _ _ _) (split-count _ _ _ _ _ _ c.new.ensures.parts e)
