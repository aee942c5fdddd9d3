-- The call of `Transpose` as one equation for its answer, by its checks, and one for what lent bytes hold after it.
use Rattle.std.specs.Prelude.{ℕ, List, length}
use Rattle.masks.specs.Checks.{first_failed}
use Rattle.masks.specs.Frozen.{with_frozen}
use Rattle.masks.specs.Mask.{mask_flags, written_mask}
use Rattle.masks.specs.declared.bitmap.Bitmap.{Bitmap}
use Rattle.masks.specs.equations.Answer.{Answer, checked, kept}
use Rattle.grids.specs.Grid.{transposed}
use Rattle.grids.specs.Transpose.{transpose_checks}

-- by the size of the output
unfoldable pub grid_transpose_of : Bitmap → List ℕ → ℕ → ℕ → ℕ → Answer (Unit {0}) Bitmap
grid_transpose_of m bytes rows columns size = checked (transpose_checks m bytes rows columns size) tt (written_mask m m.length)

unfoldable pub grid_transpose_bytes : Bitmap → List ℕ → ℕ → ℕ → List ℕ → List ℕ
grid_transpose_bytes m bytes rows columns out =
    kept (first_failed (transpose_checks m bytes rows columns (length out)))
    (with_frozen out (transposed (mask_flags m bytes) rows columns)) out
