-- As in `pair_near`, with one mask (`not-pass`); the operation `Not` reads only the first of three lists (`not-each`).
use mathlib.Core.Path.{sym, ◌∙◌}
use Rattle.std.proofs.Common.{rules}
use Rattle.std.proofs.lemmas.Bool.{and_parts}
use Rattle.masks.proofs.bitmap_ops.CombineLaws.{not-each, one-serial}
use Rattle.capi.specs.Records.{mask_in}
use Rattle.capi.proofs.short.ShortLaws.{near-mask, near-output, each-answer, each-bytes, not-pass}
use Rattle.capi.proofs.short.not_near.Goals as goal

pub returns-then-near-clause-answer : goal.returns-then-near-clause-answer
unfolding mask_in
returns-then-near-clause-answer c =
    let all = and_parts _ _ c.if-near.true in
    let room = near-output _ _ (sym c.near_output-room.ensures ∙ all.1) in
    c.near_answer.ensures
    ∙ each-answer _ _ _ _ (not-pass c.args.mask c.args.bytes.now _ (near-mask _ _ _ (sym c.near_mask-own.ensures ∙ all.0)) room) room.some
    (one-serial (mask_in c.args.mask))

pub returns-then-near-clause-bytes : goal.returns-then-near-clause-bytes
unfolding mask_in
returns-then-near-clause-bytes c =
    let all = and_parts _ _ c.if-near.true in
    each-bytes _ _ _ _ _
    (not-pass c.args.mask c.args.bytes.now _ (near-mask _ _ _ (sym c.near_mask-own.ensures ∙ all.0))
    (near-output _ _ (sym c.near_output-room.ensures ∙ all.1)))
    (search rules) (search rules) c.combine_near.ensures (not-each _ _ _)
