-- The calls of `Rows` as one equation each: their answers by their checks, and what lent places hold after them.
use Rattle.std.specs.Prelude.{ℕ, ◌*◌, List, length}
use Rattle.words.specs.Flags.{over}
use Rattle.masks.specs.Checks.{first_failed}
use Rattle.masks.specs.Mask.{mask_flags, sliced_mask}
use Rattle.masks.specs.declared.bitmap.Bitmap.{Bitmap}
use Rattle.masks.specs.equations.Answer.{Answer, checked, kept}
use Rattle.grids.specs.Grid.{counts_checks, row_zeros}
use Rattle.grids.specs.Rows.{row_checks}

unfoldable pub grid_row_of : Bitmap → List ℕ → ℕ → ℕ → ℕ → Answer Bitmap Bitmap
grid_row_of m bytes rows columns row = checked (row_checks m bytes rows columns row) m (sliced_mask m bytes (row * columns) columns)

-- by the number of places lent
unfoldable pub grid_row_zeros_of : Bitmap → List ℕ → ℕ → ℕ → ℕ → Answer (Unit {0}) ℕ
grid_row_zeros_of m bytes rows columns places = checked (counts_checks m bytes rows columns rows places) tt rows

unfoldable pub grid_row_zeros_over : Bitmap → List ℕ → ℕ → ℕ → List ℕ → List ℕ
grid_row_zeros_over m bytes rows columns counts =
    kept (first_failed (counts_checks m bytes rows columns rows (length counts)))
    (over counts (row_zeros (mask_flags m bytes) rows columns)) counts
