-- Three words combined are one word of the stretches (`near-combined`), and one store has all flags (`write-once`).
use Rattle.std.proofs.Common.{sym, ◌∙◌}
use Rattle.words.specs.Flags.{over_at}
use Rattle.words.proofs.loops.Writing.{write-once}
use Rattle.words.proofs.ops.Combining.{length-zip}
use Rattle.words.proofs.short.ShortLaws.{near, near-combined, short-length}
use Rattle.words.proofs.short.combine_near.Goals as goal

pub near_load-x-requires : goal.near_load-x-requires
near_load-x-requires c = (near _ _ _ (sym c.lies_near.ensures ∙ c.if-lies_near.true)).lent

pub near_load-y-requires : goal.near_load-y-requires
near_load-y-requires c = (near _ _ _ (sym c.lies_near-then-lies_near.ensures ∙ c.if-lies_near-2.true)).lent

pub near_load-z-requires : goal.near_load-z-requires
near_load-z-requires c = (near _ _ _ (sym c.lies_near-then-lies_near-2.ensures ∙ c.if-lies_near-3.true)).lent

pub returns-then-out-ge8 : goal.returns-then-out-ge8
unfolding over_at
returns-then-out-ge8 c =
    let x = (near _ _ _ (sym c.lies_near.ensures ∙ c.if-lies_near.true)).inside in
    let y = (near _ _ _ (sym c.lies_near-then-lies_near.ensures ∙ c.if-lies_near-2.true)).inside in
    let z = (near _ _ _ (sym c.lies_near-then-lies_near-2.ensures ∙ c.if-lies_near-3.true)).inside in
    write-once _ _ _ _ _ (length-zip _ _ _ _ _ _ _ _) c.if-len-gt0.true (short-length _ _ x)
    (near-combined _ _ _ _ _ _ _ _ _ _ _ _ _ x y z c.near_load-x.ensures c.near_load-y.ensures c.near_load-z.ensures
    c.combine_word.ensures c.low_flags.ensures)
    c.put_word.ensures
