-- The invariant: the search for `left` down from `below` has the answer of the call's search. A window that is passed over
-- has too few set flags (`turn-down`).
use mathlib.Core.Path.{◌∙◌}
use native.Mathlib.Omega.{arith}
use Rattle.masks.proofs.bitmask.BitmaskLaws.{window-whole}
use Rattle.masks.proofs.bitmask.SearchLaws.{turn-down, enough}
use Rattle.masks.proofs.span.CheckedSpan.pass_back.Goals as goal

pub returns-then-left-ones : goal.returns-then-left-ones
returns-then-left-ones c =
    let inv = c.loop-below.invariant in
    record {
      same = inv.1;
      inside = inv.0;
      stops = λ few. absurd
          (enough _ _ _ _ _ _ _ few (window-whole _ _ _ _ _ _ c.word_window.ensures (omega arith) (omega arith))
          c.ones_in_window-ones.ensures c.if-left-ones.true);
    }

pub loop-below-preserved : goal.loop-below-preserved
loop-below-preserved c = (
  omega arith,
  turn-down _ _ _ _ _ _ (record { low = omega arith; inside = omega arith; near = omega arith })
      (window-whole _ _ _ _ _ _ c.word_window.ensures (omega arith) (omega arith))
      _ _ c.ones_in_window-ones.ensures c.if-left-ones.false
      ∙ c.loop-below.invariant.1,
)
