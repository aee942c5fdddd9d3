-- The checks of the grid with rows and columns exchanged.
use Rattle.std.specs.Prelude.{ℕ, List, ◌++◌}
use Rattle.masks.specs.Checks.{Check, output_checks}
use Rattle.masks.specs.declared.bitmap.Bitmap.{Bitmap}
use Rattle.grids.specs.Grid.{grid_checks}

-- checks 1, 2, 3, 12, and 9 of the flags in an output of `size` bytes
unfoldable pub transpose_checks : Bitmap → List ℕ → ℕ → ℕ → ℕ → List Check
transpose_checks m bytes rows columns size = grid_checks m bytes rows columns ++ output_checks m.length size
