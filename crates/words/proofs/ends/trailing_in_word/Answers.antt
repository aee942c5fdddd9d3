-- The first k flags are shifted to the top, zeros below them, and the equal flags at the end counted, at most n (`trailing-shifted`):
-- `end-bits` counts zeros; those of the inverted word are the ones of the word (`trailing-not`).
use Rattle.std.proofs.Common.{false, refl, sym, ap, ◌∙◌, arith, mod-lt, pow_pos}
use Rattle.words.specs.Ends.{trailing}
use Rattle.words.proofs.flags.Bits.{bits-not}
use Rattle.words.proofs.ends.EndLaws.{end-bits, trailing-not, trailing-shifted, take_none}
use Rattle.words.proofs.ends.trailing_in_word.Goals as goal

pub returns-then-n-eq0 : goal.returns-then-n-eq0
returns-then-n-eq0 c = take_none _ _ _ (sym c.min-n.ensures ∙ c.if-n-eq0.true)

pub returns-then-flag : goal.returns-then-flag
returns-then-flag c =
    let ones = c.leading_ones.ensures ∙ end-bits 64 _ (omega arith)
    ∙ ap (trailing false) (bits-not 64 _ (mod-lt _ (pow_pos 64))) ∙ trailing-not _ in
    rw c.if-flag.true (c.min.ensures ∙ trailing-shifted _ 64 _ _ _ _ _ c.min-n.ensures c.if-n-eq0.false refl ones)

pub returns-else-flag : goal.returns-else-flag
returns-else-flag c =
    rw c.if-flag.false
    (c.min-else-flag.ensures ∙ trailing-shifted _ 64 _ _ _ _ _ c.min-n.ensures c.if-n-eq0.false
    refl (end-bits 64 _ (mod-lt _ (pow_pos 64))))
