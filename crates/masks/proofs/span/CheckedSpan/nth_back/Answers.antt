-- The window at which `pass_back` stops has the flag (`turn-back`), or too few, and then one window is left (`turn-down`).
use mathlib.Core.Path.{◌≡◌, ◌∙◌}
use native.Mathlib.Omega.{arith}
use Rattle.masks.specs.Bitmask.{window_word}
use Rattle.masks.proofs.bitmask.SearchLaws.{turn-back, turn-down, place-below}
use Rattle.masks.proofs.span.CheckedSpan.nth_back.Goals as goal

pub overflow_add-position : goal.overflow_add-position
overflow_add-position c = omega (arith, place-below _ _ _ (omega (arith, c.ones_in_window-ones.ensures)) c.place_in_window.ensures)

pub returns-then-left-ones : goal.returns-then-left-ones
returns-then-left-ones c =
    let s = c.args.self in
    let read : c.window-w.result ≡ window_word s.bytes.now s.start c.pass_back-passed.result.at c.saturating_sub-at.result = cc in
    turn-back _ _ _ _ _ _ (record { low = omega arith; inside = omega arith; near = omega arith }) read
    _ _ _ c.ones_in_window-ones.ensures c.if-left-ones.true c.place_in_window.ensures
    ∙ c.pass_back-passed.ensures.same

pub returns : goal.returns
returns c =
    let s = c.args.self in
    let read : c.window-w.result ≡ window_word s.bytes.now s.start c.pass_back-passed.result.at c.saturating_sub-at.result = cc in
    c.search_first.ensures
    ∙ turn-down _ _ _ _ _ _ (record { low = omega arith; inside = omega arith; near = omega arith }) read
    _ _ c.ones_in_window-ones.ensures c.if-left-ones.false
    ∙ c.pass_back-passed.ensures.same
