-- The invariant: no flag of the first i words is set. A block with one ends the loop (`any-exit`), one without is passed over (`any-more`).
use Rattle.std.proofs.Common.{◌*◌, ◌∙◌, ap, arith, sym}
use Rattle.words.specs.Counts.{any_set}
use Rattle.words.proofs.counts.AnyFlag.{any-exit, any-more, zero-any}
use Rattle.words.proofs.ops.Combining.{zip-later, length-zip}
use Rattle.words.proofs.counts.Counting.{count_none, count-all}
use Rattle.words.proofs.counts.any_whole.Goals as goal

pub loop-i-init : goal.loop-i-init
loop-i-init g c = (omega arith, count_none _ _)

pub returns-then-is_set : goal.returns-then-is_set
returns-then-is_set g c =
    let at = c.part-block.ensures in
    any-exit _ (64 * c.loop-i.i) _ _ (c.is_set.ensures ∙ c.each-all.ensures
    ∙ ap any_set (zip-later _ _ _ _ _ _ _ _ _ _ _ _ _ _ _ _ at.a.0 at.a.1 at.b.0 at.b.1 at.c.0 at.c.1 (omega (arith, at.n))))
    c.if-is_set.true

pub loop-i-preserved : goal.loop-i-preserved
loop-i-preserved g c =
    let at = c.part-block.ensures in (
      omega arith,
      any-more _ (64 * c.loop-i.i) (64 * c.part-block.result.n) _ _
          c.loop-i.invariant.1 (c.is_set.ensures ∙ c.each-all.ensures
          ∙ ap any_set (zip-later _ _ _ _ _ _ _ _ _ _ _ _ _ _ _ _ at.a.0 at.a.1 at.b.0 at.b.1 at.c.0 at.c.1 (omega (arith, at.n))))
          c.if-is_set.false (omega (arith, at.n)),
    )

pub returns : goal.returns
returns g c =
    zero-any _ (sym (count-all _ _ _ _ c.loop-i.invariant.1 (length-zip _ _ _ _ _ _ _ _) c.loop-i.invariant.0 c.loop-i-test.false))
