-- A one among the flags of one load, no flag after them, or the result of `leading_from`.
use mathlib.Core.Path.{◌≡◌, sym, ◌∙◌}
use Prim.Native.Nat.{◌-◌}
use native.Mathlib.Omega.{arith}
use Rattle.words.proofs.word.Loads.{near-first}
use Rattle.masks.proofs.iterator.IteratorLaws.{word-alike, word-all-alike}
use Rattle.masks.proofs.span.zeros_from.Goals as goal

pub returns-then-same-k : goal.returns-then-same-k
returns-then-same-k c =
    let a = c.args in
    word-alike _ _ a.start a.length a.place _ _ _ (omega (arith, c.min-k.ensures))
    (near-first _ _ _ _ (omega (arith, c.min-k.ensures)) c.near_word.ensures)
    c.leading_in_word-same.ensures c.if-same-k.true

pub returns-then-left-le57 : goal.returns-then-left-le57
returns-then-left-le57 c =
    let a = c.args in
    let all : c.min-k.result ≡ a.length - a.place = omega (arith, c.min-k.ensures, c.if-left-le57.true) in
    sym all ∙ word-all-alike _ _ a.start a.length a.place _ _ _ (omega (arith, all))
    (near-first _ _ _ _ (omega (arith, c.min-k.ensures)) c.near_word.ensures)
    c.leading_in_word-same.ensures c.if-same-k.false
