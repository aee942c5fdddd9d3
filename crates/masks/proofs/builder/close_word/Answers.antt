-- The word is full: it is stored and counted, and no word is in progress (`push-closed`).
use Rattle.words.specs.Flags.{word_flags}
use native.Mathlib.Omega.{arith}
use Rattle.words.proofs.flags.Bits.{length-bits}
use Rattle.words.proofs.counts.Counting.{count-le}
use Rattle.masks.proofs.builder.ExtendLaws.{push-closed}
use Rattle.masks.proofs.builder.PushLaws.{rebuilt-way, or-merged}
use Rattle.masks.proofs.builder.RoomLaws.{word-stored}
use Rattle.masks.proofs.builder.close_word.Goals as goal

pub overflow_add-ones : goal.overflow_add-ones
overflow_add-ones c =
    let few = c.requires.few in
    let short = c.requires.short in
    omega (arith, c.ones_in_word.ensures, count-le (word_flags c.or_word-low.result), length-bits 64 c.or_word-low.result)

pub returns : goal.returns
returns c =
    rebuilt-way _ _ _ _ c.rebuilt.ensures
    (push-closed _ c.args.buf.now _ _ _ _ (or-merged c.args.b _ _ _ c.requires.low c.shl_or_zero.ensures c.or_word-low.ensures)
    c.ones_in_word.ensures
    (λ i. (c.slice_known-1.given i).fits) (λ i. (c.slice_known-2-1.given i).fits)
    (word-stored _ _ _ _ _ _ c.requires (omega arith) c.store_whole.ensures))
