-- At most 32 flags are taken of a word that has 57 (`near-value`), so they fit 32 bits (`narrow`); past the length the window is 0.
use native.Mathlib.Omega.{arith}
use borrow.Author.Rules.{rules}
use Rattle.words.proofs.word.Loads.{near-first}
use Rattle.masks.proofs.bitmask.BitmaskLaws.{narrow, window-value, window-none}
use Rattle.masks.proofs.span.SpanLaws.{near-value}
use Rattle.masks.proofs.span.CheckedSpan.window.Goals as goal

pub returns-then-index-self : goal.returns-then-index-self
returns-then-index-self c = window-none _ _ _ _ c.if-index-self.true

pub overflow_cast-result : goal.overflow_cast-result
overflow_cast-result c =
    let few = c.min-k.ensures in
    let k = c.min-k.result in
    record {
      fits =
          narrow _ _ k 32 _
          (near-value _ _ k _ _ (search rules) (omega (arith, few)) (near-first _ _ k _ (omega (arith, few)) c.near_word.ensures)
          c.low_flags.ensures) (omega (arith, few));
    }

pub returns : goal.returns
returns c =
    let few = c.min-k.ensures in
    window-value _ _ _ _ _ _ few
    (near-value _ _ _ _ _ (search rules) (omega (arith, few)) (near-first _ _ _ _ (omega (arith, few)) c.near_word.ensures)
    c.low_flags.ensures)
