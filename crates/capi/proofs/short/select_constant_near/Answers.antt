-- As in `pair_near`, with the flags that `constant_near` wrote.
use mathlib.Core.Path.{sym, ◌∙◌}
use Rattle.std.proofs.Common.{rules}
use Rattle.std.proofs.lemmas.Bool.{and_parts}
use Rattle.masks.proofs.bitmap_ops.CombineLaws.{constant-length, two-serials}
use Rattle.capi.specs.Records.{mask_in}
use Rattle.capi.proofs.short.ShortLaws.{near-mask, near-output, each-answer, each-bytes, pair-pass}
use Rattle.capi.proofs.short.select_constant_near.Goals as goal

pub returns-then-near-clause-answer : goal.returns-then-near-clause-answer
unfolding mask_in
returns-then-near-clause-answer c =
    let all = and_parts _ _ c.if-near.true in
    let rest = and_parts _ _ all.1 in
    let room = near-output _ _ (sym c.near_output-room.ensures ∙ rest.1) in
    let a = c.args in
    c.near_answer.ensures
    ∙ each-answer _ _ _ _
    (pair-pass a.selector a.truthy a.selector_bytes.now a.truthy_bytes.now _ (near-mask _ _ _ (sym c.near_mask-first.ensures ∙ all.0))
    (near-mask _ _ _ (sym c.near_mask-second.ensures ∙ rest.0)) room)
    room.some (two-serials (mask_in a.selector) (mask_in a.truthy) _ c.max.ensures)

pub returns-then-near-clause-bytes : goal.returns-then-near-clause-bytes
unfolding mask_in
returns-then-near-clause-bytes c =
    let all = and_parts _ _ c.if-near.true in
    let rest = and_parts _ _ all.1 in
    let second = near-mask _ _ _ (sym c.near_mask-second.ensures ∙ rest.0) in
    let a = c.args in
    each-bytes _ _ _ _ _
    (pair-pass a.selector a.truthy a.selector_bytes.now a.truthy_bytes.now _
    (near-mask _ _ _ (sym c.near_mask-first.ensures ∙ all.0)) second
    (near-output _ _ (sym c.near_output-room.ensures ∙ rest.1)))
    (search rules) (search rules)
    c.constant_near.ensures
    (constant-length _ _ _ _ _ _ _ (sym second.long))
