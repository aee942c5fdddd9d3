-- A word with a set flag ends the search (`any-exit`); if none has one (`none-among`), all flags after n words are equal (`any-finish`).
use Rattle.std.proofs.Common.{ap, sym, ◌∙◌, length, arith, refl, true, false, rules}
use Rattle.std.proofs.lemmas.Iterator.{YieldsList-from_range, cases_from_any}
use Rattle.words.specs.Counts.{any_set}
use Rattle.words.specs.Loops.{combined}
use Rattle.words.proofs.counts.AnyFlag.{any-short, any-exit, any-zero, any-among, none-among, AnyIn}
use Rattle.std.proofs.lemmas.Bool.{true≢false}
use Rattle.words.proofs.loops.RestLaws.{any-finish}
use Rattle.words.proofs.ops.Combining.{zip-later, length-zip}
use Rattle.words.proofs.counts.any_set.Goals as goal
use Rattle.words.proofs.counts.any_set.Goals.{then-any_whole, else-any_whole}

pub returns-then-len-le64 : goal.returns-then-len-le64
returns-then-len-le64 c = any-short _ _ _ _ (length-zip _ _ _ _ _ _ _ _) c.if-len-le64.true c.triple_word.ensures c.is_set.ensures

pub returns-then-any : goal.returns-then-any
returns-then-any c =
    let a = c.args.a.now in
    let b = c.args.b.now in
    let d = c.args.c.now in
    let l = combined c.args.op a.bytes.now a.start b.bytes.now b.start d.bytes.now d.start c.args.len in
    let x = c.new-x.ensures in
    let y = c.new-y.ensures in
    let z = c.new-z.ensures in
    let at = c.new-lanes.ensures in
    c.if-any.true ∙ elim c.if-any_whole.branch [
      | then-any_whole w ↦
          any-exit _ 0 _ _ (c.any_whole.ensures ∙ ap any_set
          (zip-later _ _ _ _ _ _ _ _ _ _ _ _ _ _ 0 _ (at.a.1 ∙ x.source) (omega (arith, at.a.2, x.start))
          (at.b.1 ∙ y.source) (omega (arith, at.b.2, y.start)) (at.c.1 ∙ z.source) (omega (arith, at.c.2, z.start)) (omega arith)))
          w.if-any_whole.true
      | else-any_whole w ↦
          any-among _ _ _ w.any.result
          (cases_from_any _ _ _ (AnyIn l true) (AnyIn l false) w.any.ensures.ran
          (YieldsList-from_range c.new-lanes.result.n c.min-n.result _ refl refl)
          (λ x q k. search rules) (λ x q k. (search rules, search rules)))
          (sym w.value-is ∙ c.if-any.true)
    ]

pub returns-else-any : goal.returns-else-any
returns-else-any c =
    let a = c.args.a.now in
    let b = c.args.b.now in
    let d = c.args.c.now in
    let l = combined c.args.op a.bytes.now a.start b.bytes.now b.start d.bytes.now d.start c.args.len in
    let x = c.new-x.ensures in
    let y = c.new-y.ensures in
    let z = c.new-z.ensures in
    let at = c.new-lanes.ensures in
    elim c.if-any_whole.branch [
      | then-any_whole w ↦ absurd (true≢false (sym w.if-any_whole.true ∙ sym w.value-is ∙ c.if-any.false))
      | else-any_whole w ↦
          any-finish _ _ _ _ _ _ _ _ c.min-n.result
          (λ h. record { in_a = omega arith; in_b = omega arith; in_c = omega arith })
          c.min-n.result _
          (none-among l _ _ w.any.result
          (cases_from_any _ _ _ (AnyIn l true) (AnyIn l false) w.any.ensures.ran
          (YieldsList-from_range c.new-lanes.result.n c.min-n.result _ refl refl)
          (λ x q k. search rules) (λ x q k. (search rules, search rules)))
          (sym w.value-is ∙ c.if-any.false) (omega (arith, at.a.0, ap length x.source))
          (sym (any-zero _ (sym w.if-any_whole.false ∙ c.any_whole.ensures ∙ ap any_set
          (zip-later _ _ _ _ _ _ _ _ _ _ _ _ _ _ 0 _ (at.a.1 ∙ x.source) (omega (arith, at.a.2, x.start))
          (at.b.1 ∙ y.source) (omega (arith, at.b.2, y.start)) (at.c.1 ∙ z.source) (omega (arith, at.c.2, z.start)) (omega arith))))))
          (omega arith) (omega arith) (c.any_after.ensures ∙ rw c.past_end.ensures)
    ]
