-- Many positions of ones at once.
use Rattle.std.specs.Prelude.{ℕ, zero, suc, ◌+◌, cond, List, ltb, length, get_or}
use Rattle.masks.specs.TrueIdx.{ones_left, true_flags}
use Rattle.masks.specs.declared.true_idx.TrueIdxIter.{TrueIdxIter}

-- the positions that a cursor has left
abbrev pub left_of : TrueIdxIter → List ℕ → List ℕ
left_of c bytes = ones_left (true_flags c bytes) c.place

-- the place of a cursor with these positions left after n of them: its old place, if n is 0; one past the n-th; the length, if fewer than n
-- are left
unfoldable pub place_after : TrueIdxIter → List ℕ → ℕ → ℕ
place_after c left zero = c.place
place_after c left (suc k) = cond (ltb k (length left)) (get_or left k 0 + 1) c.length
