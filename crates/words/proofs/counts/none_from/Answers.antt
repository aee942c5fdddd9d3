-- `any-drop`: a window that reaches the word's end has a flag set if and only if the rest of the word, starting at flag k, has.
use Rattle.std.proofs.Common.{ap, ◌∙◌, not, arith}
use Rattle.words.specs.Counts.{any_set}
use Rattle.words.proofs.counts.AnyFlag.{any-drop}
use Rattle.words.proofs.flags.Bits.{length-bits}
use Rattle.words.proofs.counts.none_from.Goals as goal

pub returns : goal.returns
returns c = ap not (c.is_set.ensures ∙ ap any_set c.shr_or_zero.ensures ∙ any-drop _ _ _ (omega (arith, length-bits 64 c.args.w)))
