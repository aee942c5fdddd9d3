-- The invariant: the first i words consist of equal flags.
use mathlib.Core.Path.{refl}
use Rattle.masks.proofs.utils.PartLaws.{front-exit, front-step, front-all}
use Rattle.masks.proofs.span_ends.FrontEnd.in_bulk.Goals as goal

pub returns-then-alike-lt64 : goal.returns-then-alike-lt64
returns-then-alike-lt64 c =
    front-exit _ _ _ _ _ _ _ _ c.loop-i-test.true c.loop-i.invariant c.word_from.ensures refl c.leading_in_word-alike.ensures
    c.if-alike-lt64.true

pub loop-i-preserved : goal.loop-i-preserved
loop-i-preserved c =
    front-step _ _ _ c.args.split.now.parts.bulk_len _ _ _ _ c.loop-i.invariant c.word_from.ensures refl c.leading_in_word-alike.ensures
    c.if-alike-lt64.false

pub returns : goal.returns
returns c = front-all _ _ _ _ _ c.loop-i.invariant c.loop-i.auto.i-end c.loop-i-test.false
