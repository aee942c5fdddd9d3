-- The calls of grids that make a mask from a mask, as rows: one row of a grid, one column, and the grid with rows and columns exchanged.
use Rattle.std.specs.Prelude.{ℕ, List, length}
use Rattle.grids.specs.equations.Columns.{grid_column_bytes, grid_column_of}
use Rattle.grids.specs.equations.Rows.{grid_row_of}
use Rattle.grids.specs.equations.Transpose.{grid_transpose_bytes, grid_transpose_of}
use Rattle.histories.specs.ReferenceList.{column_of, exchanged, row_of}
use Rattle.histories.specs.Rows.{Argument, Keeps, Lent, RowCall, Writes, keep, write, of_one, one}

-- `grid_row` keeps its piece of the list
abbrev pub grid_row_row : ℕ → ℕ → ℕ → Keeps
grid_row_row rows columns row = record { answer = λ m bytes. grid_row_of m bytes rows columns row; flags = row_of columns row }

abbrev pub grid_column_row : ℕ → ℕ → ℕ → List ℕ → Writes
grid_column_row rows columns column out =
    record {
      masks = 1;
      answer = of_one (λ (p : Lent). grid_column_of p.mask p.bytes rows columns column (length out));
      bytes = of_one (λ (p : Lent). grid_column_bytes p.mask p.bytes rows columns column out);
      flags = of_one (column_of rows columns column);
    }

abbrev pub grid_transpose_row : ℕ → ℕ → List ℕ → Writes
grid_transpose_row rows columns out =
    record {
      masks = 1;
      answer = of_one (λ (p : Lent). grid_transpose_of p.mask p.bytes rows columns (length out));
      bytes = of_one (λ (p : Lent). grid_transpose_bytes p.mask p.bytes rows columns out);
      flags = of_one (exchanged rows columns);
    }

-- ---- the table: the calls, each with its rows and columns

pub data GridCall : Type 0 where
  -- the number of the row
  grid_row : ℕ → ℕ → ℕ → GridCall
  -- the number of the column, the output and the mask
  grid_column : ℕ → ℕ → ℕ → List ℕ → Argument → GridCall
  -- the output and the mask
  grid_transpose : ℕ → ℕ → List ℕ → Argument → GridCall

abbrev pub grid_call : GridCall → RowCall
grid_call (grid_row rows columns row) = keep (grid_row_row rows columns row)
grid_call (grid_column rows columns column out a) = write (grid_column_row rows columns column out) (one a)
grid_call (grid_transpose rows columns out a) = write (grid_transpose_row rows columns out) (one a)
