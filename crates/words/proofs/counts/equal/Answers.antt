-- `same-any`: lists of equal lengths are the same if and only if no flag of their `xor` is set.
use Rattle.std.proofs.Common.{not, ap, sym, take, arith, ℕ, ◌≡◌, ◌-◌, ◌*◌, ◌∙◌}
use Rattle.words.specs.Flags.{bits, window}
use Rattle.words.proofs.counts.AnyFlag.{any-short, same-any}
use Rattle.words.proofs.ops.Combining.{cut_word, length-zip}
use Rattle.words.proofs.flags.Windows.{length-window}
use Rattle.words.proofs.counts.equal.Goals as goal

pub returns-then-len-le64 : goal.returns-then-len-le64
returns-then-len-le64 c =
    let all : c.args.len ≡ c.args.len - 64 * 0 = omega arith in
    let cut = c.low_flags.ensures ∙ ap (λ (k : ℕ). window (take k (bits 64 c.combine_word.result)) 0 64) all in
    ap not (any-short _ _ _ _ (length-zip _ _ _ _ _ _ _ _) c.if-len-le64.true
    (cut_word _ _ _ _ _ _ _ _ 0 _ _ _ _ _ c.word-x.ensures c.word-y.ensures c.word-y.ensures c.combine_word.ensures cut) c.is_set.ensures)
    ∙ same-any _ _ (length-window _ _ _ ∙ sym (length-window _ _ _))

pub returns : goal.returns
returns c = ap not c.any_set.ensures ∙ same-any _ _ (length-window _ _ _ ∙ sym (length-window _ _ _))
