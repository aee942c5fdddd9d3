-- The calls of `Columns` as one equation each: their answers by their checks, and what lent bytes and places hold after them.
use Rattle.std.specs.Prelude.{ℕ, List, length}
use Rattle.words.specs.Flags.{over}
use Rattle.masks.specs.Checks.{first_failed}
use Rattle.masks.specs.Frozen.{with_frozen}
use Rattle.masks.specs.Mask.{mask_flags, written_mask}
use Rattle.masks.specs.declared.bitmap.Bitmap.{Bitmap}
use Rattle.masks.specs.equations.Answer.{Answer, checked, kept}
use Rattle.grids.specs.Columns.{column_checks}
use Rattle.grids.specs.Grid.{column_flags, column_zeros, counts_checks}

-- by the size of the output
unfoldable pub grid_column_of : Bitmap → List ℕ → ℕ → ℕ → ℕ → ℕ → Answer (Unit {0}) Bitmap
grid_column_of m bytes rows columns column size = checked (column_checks m bytes rows columns column size) tt (written_mask m rows)

unfoldable pub grid_column_bytes : Bitmap → List ℕ → ℕ → ℕ → ℕ → List ℕ → List ℕ
grid_column_bytes m bytes rows columns column out =
    kept (first_failed (column_checks m bytes rows columns column (length out)))
    (with_frozen out (column_flags (mask_flags m bytes) rows columns column)) out

-- by the number of places lent
unfoldable pub grid_column_zeros_of : Bitmap → List ℕ → ℕ → ℕ → ℕ → Answer (Unit {0}) ℕ
grid_column_zeros_of m bytes rows columns places = checked (counts_checks m bytes rows columns columns places) tt columns

unfoldable pub grid_column_zeros_over : Bitmap → List ℕ → ℕ → ℕ → List ℕ → List ℕ
grid_column_zeros_over m bytes rows columns counts =
    kept (first_failed (counts_checks m bytes rows columns columns (length counts)))
    (over counts (column_zeros (mask_flags m bytes) rows columns)) counts
