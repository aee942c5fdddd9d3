-- The statements of `proofs/statements/CountPlain.antt`: a row that is accepted is accepted as a slice; what is written is not counted.
use Rattle.std.proofs.Common.{◌≡◌, sym, ap, ◌∙◌, ℕ, ◌*◌, List}
use Rattle.masks.specs.Mask.{sliced_mask}
use Rattle.masks.specs.declared.bitmap.Bitmap.{Bitmap}
use Rattle.masks.specs.equations.Answer.{decided, given}
use Rattle.masks.specs.equations.Mask.{slice_of}
use Rattle.masks.proofs.theorems.CountPlain.{counts_plainly as masks-counts}
use Rattle.masks.proofs.theorems.WrittenLaws.{accepted, uncounted-plain}
use Rattle.grids.specs.Columns.{column_checks}
use Rattle.grids.specs.Rows.{row_checks}
use Rattle.grids.specs.Transpose.{transpose_checks}
use Rattle.grids.specs.equations.Columns.{grid_column_of}
use Rattle.grids.specs.equations.Rows.{grid_row_of}
use Rattle.grids.specs.equations.Transpose.{grid_transpose_of}
use Rattle.grids.proofs.grid.CheckLaws.{row-allowed}
use Rattle.grids.proofs.rows.RowLaws.{same-number}
use Rattle.grids.proofs.statements.CountPlain.{CountsPlainly}

-- an accepted row is the slice
as-sliced : (m : Bitmap) (bytes : List ℕ) (rows columns i : ℕ) (s : Bitmap) → given s ≡ grid_row_of m bytes rows columns i
    → given s ≡ slice_of m bytes (i * columns) columns
unfolding grid_row_of slice_of
as-sliced m bytes rows columns i s e =
    let ok = row-allowed m bytes rows columns i
    (accepted (row_checks m bytes rows columns i) m (sliced_mask m bytes (i * columns) columns) s e).0 in
    e ∙ ap (λ (n : ℕ). decided n m (sliced_mask m bytes (i * columns) columns)) (sym (same-number m bytes rows columns i ok.0.grid ok.1))

pub counts_plainly : CountsPlainly
unfolding grid_column_of grid_transpose_of
counts_plainly =
    record {
      row = λ m bytes rows columns i s e. masks-counts.slice m bytes (i * columns) columns s (as-sliced m bytes rows columns i s e);
      column = λ m bytes rows columns i size. uncounted-plain (column_checks m bytes rows columns i size) m rows;
      transpose = λ m bytes rows columns size. uncounted-plain (transpose_checks m bytes rows columns size) m m.length;
    }
