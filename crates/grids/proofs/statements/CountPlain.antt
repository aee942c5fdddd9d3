-- Which of the masks that the calls on a grid return have a known zero count, in the reference's words. Each line is about an accepted
-- call.
use Rattle.std.specs.Prelude.{ℕ, ◌*◌, ◌≡◌, List}
use Rattle.masks.specs.declared.bitmap.Bitmap.{Bitmap}
use Rattle.masks.specs.equations.Answer.{given}
use Rattle.masks.proofs.statements.CountPlain.{EachCounts, SliceCounts}
use Rattle.grids.specs.equations.Columns.{grid_column_of}
use Rattle.grids.specs.equations.Rows.{grid_row_of}
use Rattle.grids.specs.equations.Transpose.{grid_transpose_of}

-- `unset` of a row is that of its slice; a column and the transposed grid have it unknown, save 0 for no flags
pub record CountsPlainly : Type 0 where
  pub row : (m : Bitmap) (bytes : List ℕ) (rows columns i : ℕ) (s : Bitmap) → given s ≡ grid_row_of m bytes rows columns i
      → SliceCounts m bytes (i * columns) columns s
  pub column : (m : Bitmap) (bytes : List ℕ) (rows columns i size : ℕ) → EachCounts rows (grid_column_of m bytes rows columns i size)
  pub transpose : (m : Bitmap) (bytes : List ℕ) (rows columns size : ℕ)
      → EachCounts m.length (grid_transpose_of m bytes rows columns size)
