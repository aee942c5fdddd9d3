-- `front-bits` counts the zeros; those of the inverted word are the ones of the word (`leading-not`). The least of that and k is the
-- count of the first k flags (`leading-take`).
use Rattle.std.proofs.Common.{false, ap, ◌∙◌, ℕ, min}
use Rattle.words.specs.Ends.{leading}
use Rattle.words.proofs.flags.Bits.{bits-not}
use Rattle.words.proofs.ends.EndLaws.{front-bits, leading-not, leading-take}
use Rattle.words.proofs.ends.leading_in_word.Goals as goal

pub returns-then-flag : goal.returns-then-flag
returns-then-flag c =
    let ones = c.trailing_ones.ensures ∙ front-bits 64 _ ∙ ap (leading false) (bits-not 64 _ c.ranges.w.fits) ∙ leading-not _ in
    rw c.if-flag.true (c.min.ensures ∙ ap (λ (x : ℕ). min x c.args.k) ones ∙ leading-take _ c.args.k _)

pub returns-else-flag : goal.returns-else-flag
returns-else-flag c =
    rw c.if-flag.false (c.min-else-flag.ensures ∙ ap (λ (x : ℕ). min x c.args.k) (front-bits 64 _) ∙ leading-take _ c.args.k _)
