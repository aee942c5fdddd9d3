-- A flag is found at or after the place (`found-ahead`), or before it (`found_before`), or nowhere (`found_none`).
use mathlib.Core.Path.{refl}
use native.Mathlib.Omega.{arith}
use Rattle.masks.proofs.next_and_not.NextAndNotLaws.{found-ahead, found_before, found_none, long-word, word-ahead, word-before}
use Rattle.masks.proofs.next_and_not.next_in_word.Goals as goal

pub returns-then-ahead-n : goal.returns-then-ahead-n
returns-then-ahead-n c =
    let few = c.requires.0 in
    let inside = c.requires.1 in
    found-ahead _ _ _ _ (long-word _ _ _ few inside) inside
    (word-ahead _ _ _ few inside _ _ c.shr_or_zero.ensures c.leading_in_word-ahead.ensures) _ _ c.if-ahead-n.true refl refl

pub windows_of-passed-requires : goal.windows_of-passed-requires
windows_of-passed-requires c = omega (arith, c.requires.0)

pub returns-then-before-from : goal.returns-then-before-from
returns-then-before-from c =
    let few = c.requires.0 in
    let inside = c.requires.1 in
    found_before _ _ _ _ (long-word _ _ _ few inside) inside
    (word-ahead _ _ _ few inside _ _ c.shr_or_zero.ensures c.leading_in_word-ahead.ensures) _ _ c.if-ahead-n.false
    c.windows_of-passed.ensures (word-before _ _ _ few inside _ c.leading_in_word-before.ensures) _ c.if-before-from.true refl

pub windows_of-requires : goal.windows_of-requires
windows_of-requires c = omega (arith, c.requires.0, c.requires.1)

pub returns : goal.returns
returns c =
    let few = c.requires.0 in
    let inside = c.requires.1 in
    found_none _ _ _ _ (long-word _ _ _ few inside) inside
    (word-ahead _ _ _ few inside _ _ c.shr_or_zero.ensures c.leading_in_word-ahead.ensures) _ _ c.if-ahead-n.false
    c.windows_of-passed.ensures (word-before _ _ _ few inside _ c.leading_in_word-before.ensures) _ _ c.if-before-from.false
    c.windows_of.ensures refl
