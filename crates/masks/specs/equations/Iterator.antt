-- The calls of `Iterator` as one equation each: their answers by their checks.
use Rattle.std.specs.Prelude.{ℕ, ◌+◌, Bool, List, length}
use Rattle.masks.specs.equations.Answer.{Answer, given, checked, unless_empty}
use Rattle.masks.specs.Checks.{span_checks}
use Rattle.masks.specs.Cursor.{Step}
use Rattle.masks.specs.declared.iterator.BitmapIter.{BitmapIter}
use Rattle.masks.specs.Iterator.{moved_to, first_iter, iter_checks, flag_step, leading_at}

-- the answer of `BitmapIter::new`: checks 1 and 2, and the cursor; for length 0 the cursor before them
unfoldable pub new_iter : List ℕ → ℕ → ℕ → Answer (Unit {0}) BitmapIter
new_iter bytes start n =
    unless_empty n (given (first_iter start n)) (checked (span_checks start n (length bytes)) tt (first_iter start n))

unfoldable pub nth_flag : BitmapIter → List ℕ → ℕ → Answer BitmapIter (Step BitmapIter Bool)
nth_flag c bytes k = checked (iter_checks c bytes) c (flag_step bytes c k)

-- their number, and the cursor past them
unfoldable pub take_leading : Bool → BitmapIter → List ℕ → Answer BitmapIter (ℕ × BitmapIter)
take_leading x c bytes = checked (iter_checks c bytes) c (leading_at x c bytes, moved_to c (c.place + leading_at x c bytes))
