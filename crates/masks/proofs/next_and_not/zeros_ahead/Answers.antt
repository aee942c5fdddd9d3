-- The invariant: no flag searched is set from the place up to `at`. A word without a set flag keeps it (`passed-more`),
-- another ends the loop (`passed-stop`).
use mathlib.Core.Path.{ap, ◌∙◌}
use mathlib.Core.Bool.{false}
use native.Mathlib.Omega.{arith}
use Rattle.words.specs.Ends.{leading}
use Rattle.masks.proofs.next_and_not.NextAndNotLaws.{free-length, passed-end, passed-more, passed-stop, word-most}
use Rattle.masks.proofs.next_and_not.zeros_ahead.Goals as goal

pub overflow_add-at : goal.overflow_add-at
overflow_add-at c =
    let few = c.min-k.ensures in
    let inv = c.loop-at.invariant in
    let pre = c.requires in
    omega (arith, few, pre.inside, pre.short, word-most c.min-k.result _ _ c.leading_in_word-same.ensures)

pub returns-then-same-k : goal.returns-then-same-k
returns-then-same-k c =
    let few = c.min-k.ensures in
    let inv = c.loop-at.invariant in
    let pre = c.requires in
    passed-stop _ _ _ _ _ _ (free-length _ _ _ _ pre.beside) pre.inside inv (omega (arith, few)) _
    (c.leading_in_word-same.ensures ∙ ap (leading false) (c.free_word.ensures _ (omega (arith, few)) (omega (arith, few, pre.inside))))
    c.if-same-k.true

pub loop-at-preserved : goal.loop-at-preserved
loop-at-preserved c =
    let few = c.min-k.ensures in
    let inv = c.loop-at.invariant in
    let pre = c.requires in
    passed-more _ _ _ _ _ _ (free-length _ _ _ _ pre.beside) pre.inside inv (omega (arith, few)) _
    (c.leading_in_word-same.ensures ∙ ap (leading false) (c.free_word.ensures _ (omega (arith, few)) (omega (arith, few, pre.inside))))
    c.if-same-k.false

pub returns : goal.returns
returns c =
    let pre = c.requires in
    passed-end _ _ _ _ _ (free-length _ _ _ _ pre.beside) pre.inside c.loop-at.invariant c.loop-at-test.false
