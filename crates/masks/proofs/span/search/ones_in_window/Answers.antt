-- A window of 32 flags has no set flag number 32, so the answer is the number of the set flags (`nth-missing`).
use Rattle.std.proofs.Common.{Err, ◌≡◌, ◌∙◌, arith, rules}
use Rattle.words.specs.Flags.{bits, count}
use Rattle.words.proofs.flags.Bits.{length-bits}
use Rattle.words.proofs.counts.Counting.{count-le}
use Rattle.words.proofs.theorems.Plain.{nth-missing}
use Rattle.masks.proofs.span.search.ones_in_window.Goals as goal

pub returns : goal.returns
returns c =
    let l = bits 32 c.args.w in
    let none : c.nth_in_window.result ≡ Err (count l) =
    c.nth_in_window.ensures ∙ nth-missing l 32 (omega (arith, count-le l, length-bits 32 c.args.w)) in
    search (rules, none)
