-- The window has the flag (`turn-back`), or no flag lies before it (`turn-down`, `back_none`).
use Rattle.std.specs.Prelude.{Some}
use mathlib.Core.Path.{◌≡◌, ap, ◌∙◌}
use Prim.Native.Nat.{◌+◌}
use native.Mathlib.Omega.{arith}
use Rattle.masks.specs.Bitmask.{window_word}
use Rattle.masks.proofs.bitmask.SearchLaws.{turn-back, turn-down, back_none}
use Rattle.masks.proofs.span.CheckedSpan.search_first.Goals as goal

pub returns-then-n-ones : goal.returns-then-n-ones
returns-then-n-ones c =
    let s = c.args.self in
    let read : c.window-w.result ≡ window_word s.bytes.now s.start c.args.end 0 = cc in
    let i = c.place_in_window-position.result in
    let z : i ≡ 0 + i = omega arith in
    ap Some z
    ∙ turn-back _ _ _ _ _ _ (record { low = omega arith; inside = omega arith; near = omega arith }) read
    _ _ _ c.ones_in_window-ones.ensures c.if-n-ones.true c.place_in_window-position.ensures

pub returns : goal.returns
returns c =
    let s = c.args.self in
    let read : c.window-w.result ≡ window_word s.bytes.now s.start c.args.end 0 = cc in
    back_none _ _ 0 (omega arith)
    ∙ turn-down _ _ _ _ _ _ (record { low = omega arith; inside = omega arith; near = omega arith }) read _ _
    c.ones_in_window-ones.ensures c.if-n-ones.false
