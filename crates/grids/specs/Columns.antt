-- The checks of a call on one column.
use Rattle.std.specs.Prelude.{ℕ, List, ◌∷◌, ◌++◌, ltb}
use Rattle.masks.specs.Checks.{Check, check, output_checks}
use Rattle.masks.specs.declared.bitmap.Bitmap.{Bitmap}
use Rattle.grids.specs.Grid.{grid_checks}

-- checks 1, 2, 3, 12, 6 of the column, and 9 of its flags in an output of `size` bytes
unfoldable pub column_checks : Bitmap → List ℕ → ℕ → ℕ → ℕ → ℕ → List Check
column_checks m bytes rows columns column size =
    grid_checks m bytes rows columns ++ (check 6 (ltb column columns) ∷ output_checks rows size)
