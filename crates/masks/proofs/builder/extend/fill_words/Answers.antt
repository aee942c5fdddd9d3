-- `append-whole`: no word is in progress; whole words are stored at the first unfilled one; `count-copies` counts their ones.
use mathlib.Core.Path.{sym, ◌∙◌}
use native.Mathlib.Omega.{arith}
use Rattle.words.proofs.flags.Bytes.{over-from}
use Rattle.words.proofs.counts.Counting.{count-copies}
use Rattle.words.proofs.flags.Windows.{length-copies}
use Rattle.masks.proofs.builder.ExtendLaws.{append-whole, ones-of, words-filled}
use Rattle.masks.proofs.builder.PushLaws.{rebuilt-way}
use Rattle.masks.proofs.builder.extend.fill_words.Goals as goal

pub returns : goal.returns
returns c =
    rebuilt-way _ _ _ _ c.rebuilt.ensures
    (append-whole _ c.args.buf.now _ c.args.whole _ _ c.requires.0 (length-copies _ _)
    ((ones-of _ _ _ c.from.ensures).0 ∙ sym (count-copies _ _))
    (λ i. (c.slice_known-1.given i).fits) (λ i. (c.slice_known-2-1.given i).fits)
    (over-from _ _ _ _ (words-filled _ _ c.args.whole _ _ (omega arith) c.fill_whole.ensures)))
