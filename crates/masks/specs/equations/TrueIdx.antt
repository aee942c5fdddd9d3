-- The calls of `TrueIdx` as one equation each: their answers by their checks.
use Rattle.std.specs.Prelude.{ℕ, List, length, Option}
use Rattle.masks.specs.declared.bitmap.Bitmap.{Bitmap}
use Rattle.masks.specs.equations.Answer.{Answer, checked}
use Rattle.masks.specs.Cursor.{Step}
use Rattle.masks.specs.Search.{nth_from}
use Rattle.masks.specs.declared.true_idx.TrueIdxIter.{TrueIdxIter}
use Rattle.masks.specs.TrueIdx.{new_true_checks, first_true, true_flags, true_checks, true_step}

unfoldable pub new_true : ℕ → Option Bitmap → List ℕ → Answer (Unit {0}) TrueIdxIter
new_true n mask bytes = checked (new_true_checks n mask bytes) tt (first_true n mask)

-- the answer of `TrueIdxIter::next`: the first one at or after the place
unfoldable pub next_true : TrueIdxIter → List ℕ → Answer TrueIdxIter (Step TrueIdxIter ℕ)
next_true c bytes = checked (true_checks c (length bytes)) c (true_step c (nth_from (true_flags c bytes) 0 c.place))
