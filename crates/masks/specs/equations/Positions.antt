-- The calls of `Positions` as one equation each: their answers by their checks, and what lent bytes hold after them.
use Rattle.std.specs.Prelude.{ℕ, List, length, take}
use Rattle.words.specs.Flags.{over}
use Rattle.masks.specs.equations.Answer.{Answer, checked, kept}
use Rattle.masks.specs.Checks.{first_failed}
use Rattle.masks.specs.TrueIdx.{true_checks, true_moved}
use Rattle.masks.specs.declared.true_idx.TrueIdxIter.{TrueIdxIter}
use Rattle.masks.specs.Positions.{left_of, place_after}

-- the answer of `next_chunk` with an output of `room` places: how many positions are written, and the cursor after them
unfoldable pub next_positions : TrueIdxIter → List ℕ → ℕ → Answer TrueIdxIter (ℕ × TrueIdxIter)
next_positions c bytes room =
    checked (true_checks c (length bytes)) c
    (length (take room (left_of c bytes)), true_moved c (place_after c (left_of c bytes) room))

-- the output after `next_chunk`: the positions at its start, as many as fit; the rest of it is unchanged
unfoldable pub positions_over : TrueIdxIter → List ℕ → List ℕ → List ℕ
positions_over c bytes out = kept (first_failed (true_checks c (length bytes))) (over out (left_of c bytes)) out
