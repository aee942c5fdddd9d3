-- The serial of every record that a call on a grid returns: that of the mask. Each line is about an accepted call; a refused `grid_row`
-- returns the mask as it was passed, and the others only a number.
use Rattle.std.specs.Prelude.{ℕ, ◌≡◌, List}
use Rattle.masks.specs.declared.bitmap.Bitmap.{Bitmap}
use Rattle.masks.specs.equations.Answer.{given}
use Rattle.grids.specs.equations.Columns.{grid_column_of}
use Rattle.grids.specs.equations.Rows.{grid_row_of}
use Rattle.grids.specs.equations.Transpose.{grid_transpose_of}

pub record SerialsPlainly : Type 0 where
  pub row : (m : Bitmap) (bytes : List ℕ) (rows columns i : ℕ) (s : Bitmap) → given s ≡ grid_row_of m bytes rows columns i
      → s.serial ≡ m.serial
  pub column : (m : Bitmap) (bytes : List ℕ) (rows columns i size : ℕ) (s : Bitmap)
      → given s ≡ grid_column_of m bytes rows columns i size → s.serial ≡ m.serial
  pub transpose : (m : Bitmap) (bytes : List ℕ) (rows columns size : ℕ) (t : Bitmap)
      → given t ≡ grid_transpose_of m bytes rows columns size → t.serial ≡ m.serial
