-- The flags of a span one by one, and how many flags in a row are equal.
use Rattle.std.specs.Prelude.{ℕ, ◌+◌, Bool, false, cond, List, eqb, ltb, length, drop, get_or}
use Rattle.words.specs.Ends.{leading}
use Rattle.words.specs.Loops.{stretch}
use Rattle.masks.specs.Checks.{Check}
use Rattle.masks.specs.Cursor.{Step, item, ended, cursor_checks}
use Rattle.masks.specs.declared.iterator.BitmapIter.{BitmapIter}

-- a cursor over n flags starting at `start`, at a place that counts flags: the one place where its record is made
abbrev pub iter_at : ℕ → ℕ → ℕ → BitmapIter
iter_at start n place = record { start = start; length = n; place = place }

abbrev pub iter_flags : BitmapIter → List ℕ → List Bool
iter_flags c bytes = stretch bytes c.start c.length

-- a cursor moved to another place
abbrev pub moved_to : BitmapIter → ℕ → BitmapIter
moved_to c place = iter_at c.start c.length place

-- ---- a new cursor

-- a cursor at place 0 over n flags; over no flags it is all 0
abbrev pub first_iter : ℕ → ℕ → BitmapIter
first_iter start n = cond (eqb n 0) (iter_at 0 0 0) (iter_at start n 0)

-- ---- a flag: checks 1, 2 and 6

abbrev pub iter_checks : BitmapIter → List ℕ → List Check
iter_checks c bytes = cursor_checks c.start c.length c.place (length bytes)

-- the flag k places after the cursor's, and the cursor just past it; past the end none, and the cursor at the length
unfoldable pub flag_step : List ℕ → BitmapIter → ℕ → Step BitmapIter Bool
flag_step bytes c k =
    cond (ltb (c.place + k) c.length)
    (item (get_or (iter_flags c bytes) (c.place + k) false) (moved_to c (c.place + k + 1)))
    (ended (moved_to c c.length))

-- ---- how many flags in a row are equal: checks 1, 2 and 6

-- how many flags x there are in a row, starting at a place of l
unfoldable pub leading_from : Bool → List Bool → ℕ → ℕ
leading_from x l place = leading x (drop place l)

-- how many flags x there are in a row at the cursor
abbrev pub leading_at : Bool → BitmapIter → List ℕ → ℕ
leading_at x c bytes = leading_from x (iter_flags c bytes) c.place
