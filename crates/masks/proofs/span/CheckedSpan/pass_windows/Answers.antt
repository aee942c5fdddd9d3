-- The invariant: the search for `left` up from `at` has the answer of the call's search. A window that is passed over has too few set
-- flags (`turn-only`).
use mathlib.Core.Path.{◌∙◌}
use native.Mathlib.Omega.{arith}
use Rattle.masks.proofs.bitmask.BitmaskLaws.{window-flags, window-whole}
use Rattle.masks.proofs.bitmask.SearchLaws.{turn-only, enough}
use Rattle.masks.proofs.span.CheckedSpan.pass_windows.Goals as goal

pub returns-then-left-ones : goal.returns-then-left-ones
returns-then-left-ones c =
    let inv = c.loop-at.invariant in
    record {
      same = inv.1;
      inside = inv.0;
      stops = λ few. absurd
          (enough _ _ _ _ _ _ _ few (window-whole _ _ _ _ _ _ c.word_window.ensures (omega arith) (omega arith))
          c.ones_in_window-ones.ensures c.if-left-ones.true);
    }

pub loop-at-preserved : goal.loop-at-preserved
loop-at-preserved c = (
  omega arith,
  turn-only _ _ _ _ _ (window-flags _ _ _ _ _ (window-whole _ _ _ _ _ _ c.word_window.ensures (omega arith) (omega arith)))
      (record { few = omega (arith, c.ones_in_window-ones.ensures, c.if-left-ones.false); number = c.ones_in_window-ones.ensures })
      ∙ c.loop-at.invariant.1,
)
