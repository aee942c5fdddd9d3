-- Part by part, by the laws of the end: the next part is read if all flags of one are equal.
use Rattle.std.proofs.Common.{arith, sym, ap, ◌≡◌, ◌+◌, ◌*◌, ◌∙◌, length}
use Rattle.words.proofs.flags.Windows.{length-window}
use Rattle.masks.proofs.utils.PartLaws.{of-part}
use Rattle.masks.specs.Workers.{bulk_flags}
use Rattle.masks.proofs.span_ends.SplitSpan.run.Goals as goal

pub overflow_add-result : goal.overflow_add-result
overflow_add-result g c = omega arith

pub overflow_add-result-2 : goal.overflow_add-result-2
overflow_add-result-2 g c = omega arith

pub overflow_add-result-3 : goal.overflow_add-result-3
overflow_add-result-3 g c =
    let far = of-part (g.E.End.run c.args.flag) _ _ _ _ c.far-other.ensures c.in_word.ensures in
    omega (
      arith,
      far.0,
      far.1,
      g.met.E.End.at_most c.args.flag (g.E.End.far_flags c.args.self.now.parts),
      c.far-other.ensures.0,
      c.near-word.ensures.0,
    )

pub returns-then-first-k : goal.returns-then-first-k
returns-then-first-k g c =
    let run = g.E.End.run c.args.flag in
    let near = of-part run _ _ _ _ c.near-word.ensures c.in_word-first.ensures in
    near.0 ∙ sym (ap run (g.met.E.End.in_row _ _) ∙ g.met.E.End.at_first _ _ _ _ (omega (arith, near.0, near.1, c.if-first-k.true)))

pub returns-then-middle-bulk : goal.returns-then-middle-bulk
returns-then-middle-bulk g c =
    let s = c.args.self.now in
    let run = g.E.End.run c.args.flag in
    let near = of-part run _ _ _ _ c.near-word.ensures c.in_word-first.ensures in
    let middle = c.in_bulk-middle.ensures in
    let B = bulk_flags s.bytes.now s.parts in
    let m : length B ≡ 64 * s.parts.bulk_len = length-window _ _ _ in
    let sum : c.near-word.result.1 + c.in_bulk-middle.result ≡ length (g.E.End.near_flags s.parts) + run B =
    omega (arith, near.1, middle) in
    sum ∙ sym (ap run (g.met.E.End.in_row _ _)
    ∙ g.met.E.End.at_second _ _ _ _ (omega (arith, near.0, near.1, c.if-first-k.false)) (omega (arith, middle, m, c.if-middle-bulk.true)))

pub returns : goal.returns
returns g c =
    let s = c.args.self.now in
    let run = g.E.End.run c.args.flag in
    let near = of-part run _ _ _ _ c.near-word.ensures c.in_word-first.ensures in
    let middle = c.in_bulk-middle.ensures in
    let far = of-part run _ _ _ _ c.far-other.ensures c.in_word.ensures in
    let B = bulk_flags s.bytes.now s.parts in
    let m : length B ≡ 64 * s.parts.bulk_len = length-window _ _ _ in
    let sum : c.near-word.result.1 + 64 * s.parts.bulk_len + c.in_word.result
    ≡ length (g.E.End.near_flags s.parts) + (length B + run (g.E.End.far_flags s.parts)) =
    omega (arith, near.1, m, far.0) in
    sum ∙ sym (ap run (g.met.E.End.in_row _ _)
    ∙ g.met.E.End.at_third _ _ _ _ (omega (arith, near.0, near.1, c.if-first-k.false)) (omega (arith, middle, m, c.if-middle-bulk.false)))
