-- The calls of `SliceIterator` as one equation each: their answers by their checks.
use Rattle.std.specs.Prelude.{ℕ, List}
use Rattle.words.specs.Loops.{stretch}
use Rattle.masks.specs.equations.Answer.{Answer, checked}
use Rattle.masks.specs.Cursor.{Step}
use Rattle.masks.specs.Mask.{mask_checks}
use Rattle.masks.specs.declared.bitmap.Bitmap.{Bitmap}
use Rattle.masks.specs.declared.slice_iterator.Run.{Run}
use Rattle.masks.specs.declared.slice_iterator.SlicesIterator.{SlicesIterator}
use Rattle.masks.specs.SliceIterator.{slices_at, run_checks, slice_step}

unfoldable pub new_slices : Bitmap → List ℕ → Answer (Unit {0}) SlicesIterator
new_slices m bytes = checked (mask_checks m bytes) tt (slices_at m.start m.length 0)

unfoldable pub next_slice : SlicesIterator → List ℕ → Answer SlicesIterator (Step SlicesIterator Run)
next_slice c bytes = checked (run_checks c bytes) c (slice_step c (stretch bytes c.start c.length))
