-- The invariant: the first i flags of w are those at the first i indices. Adding one more is the law `word-step`.
use Rattle.std.proofs.Common.{refl}
use Rattle.masks.proofs.builder.GatherLaws.{gathered_none, word-step}
use Rattle.masks.proofs.builder.gather.gather_word.Goals as goal

pub loop-i-init : goal.loop-i-init
loop-i-init c = gathered_none _ c.args.idxs.now

pub loop-i-preserved : goal.loop-i-preserved
loop-i-preserved c =
    word-step _ _ _ _ _ _ _ _ c.loop-i.invariant c.loop-i-test.true c.requires refl
    c.span_flag-flag.ensures c.constant_word.ensures c.concat_low-w.ensures
