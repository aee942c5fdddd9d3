-- `append-whole`: no word is in progress; whole words are stored at the first unfilled one. Ones are at most the flags, so the sum fits.
use Rattle.words.proofs.counts.Counting.{count-within}
use Rattle.words.specs.Flags.{flags_of}
use native.Mathlib.Omega.{arith}
use Rattle.words.proofs.flags.Bytes.{over-from}
use Rattle.words.proofs.flags.Windows.{length-window}
use Rattle.masks.proofs.builder.ExtendLaws.{append-whole}
use Rattle.masks.proofs.builder.PushLaws.{rebuilt-way}
use Rattle.masks.proofs.builder.extend.copy_words.Goals as goal

pub overflow_add-ones : goal.overflow_add-ones
overflow_add-ones c =
    let few = c.requires.1.few in
    let short = c.requires.1.short in
    omega (arith, count-within (flags_of c.args.bytes.now) c.args.start _ _ c.copy_count.ensures.ones)

pub returns : goal.returns
returns c =
    rebuilt-way _ _ _ _ c.rebuilt.ensures
    (append-whole _ c.args.buf.now _ c.args.whole _ _ c.requires.0 (length-window _ _ _) c.copy_count.ensures.ones
    (λ i. (c.slice_known-1.given i).fits) (λ i. (c.slice_known-2-1.given i).fits) (over-from _ _ _ _ c.copy_count.ensures.flags))
