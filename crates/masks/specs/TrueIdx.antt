-- The positions of the ones of a mask; with no mask every position.
use Rattle.std.specs.Prelude.{ℕ, suc, ◌+◌, Bool, true, false, cond, List, [], ◌∷◌, ◌++◌, leb, eqb, drop, Option, Some, None}
use Rattle.words.specs.Flags.{copies}
use Rattle.words.specs.Loops.{stretch}
use Rattle.masks.specs.declared.bitmap.Bitmap.{Bitmap}
use Rattle.masks.specs.Checks.{Check, check, within_limit}
use Rattle.masks.specs.Cursor.{Step, item, ended, cursor_checks}
use Rattle.masks.specs.Mask.{mask_checks}
use Rattle.masks.specs.declared.true_idx.TrueIdxIter.{TrueIdxIter}

-- a cursor over n flags starting at `start`, at a place, masked or not: the one place where its record is made
abbrev pub true_at : ℕ → ℕ → ℕ → Bool → TrueIdxIter
true_at start n place masked = record { start = start; length = n; place = place; masked = masked }

-- a cursor moved to another place
abbrev pub true_moved : TrueIdxIter → ℕ → TrueIdxIter
true_moved c place = true_at c.start c.length place c.masked

-- ---- a new cursor

-- checks 1 to 3 and 5 of a stated length n and a mask; with no mask, check 1
unfoldable pub new_true_checks : ℕ → Option Bitmap → List ℕ → List Check
new_true_checks n (Some m) bytes = (within_limit n ∷ []) ++ (mask_checks m bytes ++ (check 5 (eqb n m.length) ∷ []))
new_true_checks n None bytes = within_limit n ∷ []

-- a new cursor; it marks whether there is a mask
unfoldable pub first_true : ℕ → Option Bitmap → TrueIdxIter
first_true n (Some m) = true_at m.start n 0 true
first_true n None = true_at 0 n 0 false

-- ---- the next position

-- the flags of a cursor; with no mask every flag is set
unfoldable pub true_flags : TrueIdxIter → List ℕ → List Bool
true_flags c bytes = cond c.masked (stretch bytes c.start c.length) (copies c.length true)

-- checks 1, 2 and 6 of a cursor over `size` bytes; with no mask, 1 and 6
unfoldable pub true_checks : TrueIdxIter → ℕ → List Check
true_checks c size =
    cond c.masked (cursor_checks c.start c.length c.place size)
    (within_limit c.start ∷ within_limit c.length ∷ check 6 (leb c.place c.length) ∷ [])

-- a step by the next position: it and the cursor just past it; or none, and the cursor at the length
unfoldable pub true_step : TrueIdxIter → Option ℕ → Step TrueIdxIter ℕ
true_step c None = ended (true_moved c c.length)
true_step c (Some p) = item p (true_moved c (p + 1))

-- ---- all positions of ones of a list

-- the positions of the ones of a list whose first flag is number k, rising
unfoldable pub ones_from : ℕ → List Bool → List ℕ
ones_from k [] = []
ones_from k (false ∷ l) = ones_from (suc k) l
ones_from k (true ∷ l) = k ∷ ones_from (suc k) l

-- the positions of the ones of a list that a cursor at a place has left
unfoldable pub ones_left : List Bool → ℕ → List ℕ
ones_left l place = ones_from place (drop place l)
