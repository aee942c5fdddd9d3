-- The tests say that the masks lie in eight bytes (`near-mask`, `near-output`); then `pair-answer` and `pair-bytes`.
use mathlib.Core.Path.{sym, ◌∙◌}
use Rattle.std.proofs.Common.{rules}
use Rattle.std.proofs.lemmas.Bool.{and_parts}
use Rattle.capi.proofs.short.ShortLaws.{near-mask, near-output, pair-answer, pair-bytes}
use Rattle.capi.proofs.short.pair_near.Goals as goal

pub returns-then-near-clause-answer : goal.returns-then-near-clause-answer
returns-then-near-clause-answer c =
    let all = and_parts _ _ c.if-near.true in
    let rest = and_parts _ _ all.1 in
    c.near_answer.ensures
    ∙ pair-answer _ _ _ _ _ _ _ _ (near-mask _ _ _ (sym c.near_mask-first.ensures ∙ all.0))
    (near-mask _ _ _ (sym c.near_mask-second.ensures ∙ rest.0)) (near-output _ _ (sym c.near_output-room.ensures ∙ rest.1))
    c.all_clear-clear.ensures c.max.ensures

pub returns-then-near-clause-bytes : goal.returns-then-near-clause-bytes
returns-then-near-clause-bytes c =
    let all = and_parts _ _ c.if-near.true in
    let rest = and_parts _ _ all.1 in
    pair-bytes _ _ _ _ _ _ _ (near-mask _ _ _ (sym c.near_mask-first.ensures ∙ all.0))
    (near-mask _ _ _ (sym c.near_mask-second.ensures ∙ rest.0)) (near-output _ _ (sym c.near_output-room.ensures ∙ rest.1))
    (search rules) (search rules) c.combine_near.ensures
