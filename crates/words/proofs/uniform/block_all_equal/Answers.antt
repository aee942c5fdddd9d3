-- The invariant: `others` has a set flag if and only if one of the first i words has a flag other than `flag`. One more is `any_step`.
use Rattle.std.proofs.Common.{ap, ◌∙◌, not, arith}
use Rattle.words.proofs.counts.AnyFlag.{any_none, any_step, any-all}
use Rattle.words.proofs.uniform.UniformLaws.{all_any, length_unlike, map-word}
use Rattle.words.proofs.uniform.block_all_equal.Goals as goal

pub loop-i-init : goal.loop-i-init
loop-i-init c = any_none _

pub loop-i-preserved : goal.loop-i-preserved
loop-i-preserved c =
    any_step _ _ _ _ _ c.loop-i.invariant
    (map-word _ _ _ _ _ _ _ _ (omega arith) (omega arith) c.word.ensures c.differing.ensures) c.or_word-others.ensures

pub returns : goal.returns
returns c =
    ap not (c.is_set.ensures ∙ any-all _ c.loop-i.i _ _ c.loop-i.invariant (length_unlike _ _ _ _) (omega arith) (omega arith))
    ∙ all_any _ _
