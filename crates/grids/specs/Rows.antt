-- The checks of a call on one row.
use Rattle.std.specs.Prelude.{ℕ, ◌+◌, ◌*◌, Bool, not, ◌&&◌, ◌||◌, List, [], ◌∷◌, ◌++◌, leb, ltb}
use Rattle.masks.specs.Checks.{Check, check, limit}
use Rattle.masks.specs.Mask.{cut_zeros, recount_valid}
use Rattle.masks.specs.declared.bitmap.Bitmap.{Bitmap}
use Rattle.grids.specs.Grid.{grid_checks, is_grid}

-- whether the mask is such a grid, with such a row
abbrev pub has_row : Bitmap → ℕ → ℕ → ℕ → Bool
has_row m rows columns row = is_grid rows columns m && ltb row rows

-- a check that is put only if there is such a row; else it holds
abbrev pub if_row : Bool → Bool → Bool
if_row there holds = not there || holds

-- checks 1, 2, 3, 12 and 6 of a row; of a row that there is also 1 of its start in the bytes, and 7 of its slice
unfoldable pub row_checks : Bitmap → List ℕ → ℕ → ℕ → ℕ → List Check
row_checks m bytes rows columns row =
    grid_checks m bytes rows columns
    ++ (check 6 (ltb row rows)
    ∷ check 1 (if_row (has_row m rows columns row) (leb (m.start + row * columns) limit))
    ∷ check 7
    (if_row (has_row m rows columns row) (recount_valid m.length columns (cut_zeros m bytes (row * columns) columns) m.unset))
    ∷ [])
