-- The statements of `proofs/statements/SerialPlain.antt`: an accepted call returns the record of its definition.
use Rattle.std.proofs.Common.{ap, ◌*◌}
use Rattle.masks.specs.Mask.{sliced_mask, written_mask}
use Rattle.masks.specs.declared.bitmap.Bitmap.{Bitmap}
use Rattle.masks.proofs.theorems.WrittenLaws.{accepted}
use Rattle.grids.specs.Columns.{column_checks}
use Rattle.grids.specs.Rows.{row_checks}
use Rattle.grids.specs.Transpose.{transpose_checks}
use Rattle.grids.specs.equations.Columns.{grid_column_of}
use Rattle.grids.specs.equations.Rows.{grid_row_of}
use Rattle.grids.specs.equations.Transpose.{grid_transpose_of}
use Rattle.grids.proofs.statements.SerialPlain.{SerialsPlainly}

pub serials_plainly : SerialsPlainly
unfolding grid_row_of grid_column_of grid_transpose_of
serials_plainly =
    record {
      row = λ m bytes rows columns i s e.
          ap (λ (x : Bitmap). x.serial) (accepted (row_checks m bytes rows columns i) m (sliced_mask m bytes (i * columns) columns) s e).1;
      column = λ m bytes rows columns i size s e.
          ap (λ (x : Bitmap). x.serial) (accepted (column_checks m bytes rows columns i size) tt (written_mask m rows) s e).1;
      transpose = λ m bytes rows columns size t e.
          ap (λ (x : Bitmap). x.serial) (accepted (transpose_checks m bytes rows columns size) tt (written_mask m m.length) t e).1;
    }
