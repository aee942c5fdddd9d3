-- A word in progress is stored after the finished ones (`freeze-word`); without one the buffer is frozen already (`freeze-whole`).
use native.Mathlib.Omega.{arith}
use Rattle.masks.proofs.builder.FreezeLaws.{freeze-word, freeze-whole}
use Rattle.masks.proofs.builder.RoomLaws.{word-stored}
use Rattle.masks.proofs.builder.finish.Goals as goal

pub returns-then-b-ne0 : goal.returns-then-b-ne0
returns-then-b-ne0 c =
    freeze-word _ c.args.buf.now c.requires _ c.if-b-ne0.true (λ i. (c.slice_known-1.given i).fits)
    (λ i. (c.slice_known-then-b-ne0-1.given i).fits)
    (word-stored _ _ _ _ _ _ c.requires (omega (arith, c.if-b-ne0.true)) c.store_whole.ensures)

pub returns-else-b-ne0 : goal.returns-else-b-ne0
returns-else-b-ne0 c = freeze-whole _ c.args.buf.now c.requires c.if-b-ne0.false (λ i. (c.slice_known-1.given i).fits)
