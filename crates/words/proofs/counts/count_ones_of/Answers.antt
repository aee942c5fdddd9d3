-- Whole words first, then word by word to the end of the bytes or of the length, then the flags that are left after them.
use Rattle.words.proofs.counts.Counting.{count-step, count_fits, count_most, count-short}
use Rattle.words.proofs.loops.RestLaws.{count-finish}
use Rattle.std.proofs.Common.{ap, ◌∙◌, length, arith}
use Rattle.words.specs.Flags.{count}
use Rattle.words.proofs.ops.Combining.{zip-later, length-zip}
use Rattle.words.proofs.counts.count_ones_of.Goals as goal

pub returns-then-len-le64 : goal.returns-then-len-le64
returns-then-len-le64 c = count-short _ _ _ _ (length-zip _ _ _ _ _ _ _ _) c.if-len-le64.true c.triple_word.ensures c.ones_in_word.ensures

pub loop-i-init : goal.loop-i-init
loop-i-init c =
    let x = c.new-x.ensures in
    let y = c.new-y.ensures in
    let z = c.new-z.ensures in
    let at = c.new-lanes.ensures in (
      omega (arith, at.a.0, ap length x.source),
      c.each-ones.ensures
          ∙ ap count
          (zip-later _ _ _ _ _ _ _ _ _ _ _ _ _ _ 0 _ (at.a.1 ∙ x.source) (omega (arith, at.a.2, x.start))
          (at.b.1 ∙ y.source) (omega (arith, at.b.2, y.start)) (at.c.1 ∙ z.source) (omega (arith, at.c.2, z.start)) (omega arith)),
    )

pub overflow_add-ones : goal.overflow_add-ones
overflow_add-ones c =
    omega (
      arith,
      count_fits _ _ _ _ _ (count-step _ _ _ _ _ c.loop-i.invariant.1
          c.triple_word-in-loop-i.ensures c.ones_in_word-ones.ensures) (length-zip _ _ _ _ _ _ _ _),
    )

pub loop-i-preserved : goal.loop-i-preserved
loop-i-preserved c = (omega arith, count-step _ _ _ _ _ c.loop-i.invariant.1 c.triple_word-in-loop-i.ensures c.ones_in_word-ones.ensures)

-- what is returned
total : goal.returns
total c =
    count-finish _ _ _ _ _ _ _ _ c.min-n.result
    (λ h. record { in_a = omega arith; in_b = omega arith; in_c = omega arith })
    c.loop-i.i _ _ c.loop-i.invariant.1 c.loop-i.invariant.0 c.loop-i-test.false (c.ones_after.ensures ∙ rw c.past_end.ensures)

pub overflow_add-result : goal.overflow_add-result
overflow_add-result c = omega (arith, count_most _ _ _ (total c) (length-zip _ _ _ _ _ _ _ _))

pub returns : goal.returns
returns c = total c
