-- For each call on a grid an input for each number with which it may refuse, over one byte, except the 7 of `grid_row`, which
-- `never_seven` of `Refusals` rules out.
use Rattle.std.specs.Prelude.{ℕ, ◌≡◌, List, [], ◌∷◌, ◌++◌, length, drop, replicate}
use Rattle.masks.specs.declared.bitmap.Bitmap.{Bitmap}
use Rattle.masks.proofs.tables.Witnesses.{at_masks, but_seven, byte, number_of, whole}
use Rattle.grids.specs.equations.Columns.{grid_column_of, grid_column_zeros_of}
use Rattle.grids.specs.equations.Rows.{grid_row_of, grid_row_zeros_of}
use Rattle.grids.specs.equations.Transpose.{grid_transpose_of}
use Rattle.grids.proofs.statements.Refusals.{Family, columns, grids, may_give, rows}

-- ---- the numbers of the calls for masks over the byte, read as a grid of 2 rows and 4 columns, and for other numbers

-- `grid_row`
abbrev pub row_number : Bitmap → ℕ → ℕ → ℕ → ℕ
row_number m r c i = number_of (grid_row_of m byte r c i)

-- `grid_column`, into an output of `size` bytes
abbrev pub column_number : Bitmap → ℕ → ℕ → ℕ → ℕ → ℕ
column_number m r c i size = number_of (grid_column_of m byte r c i size)

-- `grid_transpose`
abbrev pub transpose_number : Bitmap → ℕ → ℕ → ℕ → ℕ
transpose_number m r c size = number_of (grid_transpose_of m byte r c size)

-- `grid_row_zeros`, into so many places
abbrev pub row_zeros_number : Bitmap → ℕ → ℕ → ℕ → ℕ
row_zeros_number m r c places = number_of (grid_row_zeros_of m byte r c places)

-- `grid_column_zeros`
abbrev pub column_zeros_number : Bitmap → ℕ → ℕ → ℕ → ℕ
column_zeros_number m r c places = number_of (grid_column_zeros_of m byte r c places)

-- ---- the table: for each call a list, the number of its definition at one input for each number of its family

unfoldable pub witnesses : Family → List (List ℕ)
witnesses rows =
    -- `grid_row`: a mask refused, a number of columns too large by one, a row past the end
    (at_masks (λ m. row_number m 2 4 0) ++ (row_number whole 2 5 0 ∷ row_number whole 2 4 2 ∷ []))
    ∷ []
witnesses columns =
    -- `grid_column`: as for a row, and an output of no bytes
    (at_masks (λ m. column_number m 2 4 0 8)
    ++ (column_number whole 2 5 0 8 ∷ column_number whole 2 4 4 8 ∷ column_number whole 2 4 0 7 ∷ []))
    ∷ []
witnesses grids =
    -- `grid_transpose`
    (at_masks (λ m. transpose_number m 2 4 8) ++ (transpose_number whole 2 5 8 ∷ transpose_number whole 2 4 7 ∷ []))
    -- `grid_row_zeros`
    ∷ (at_masks (λ m. row_zeros_number m 2 4 2) ++ (row_zeros_number whole 3 3 3 ∷ row_zeros_number whole 2 4 1 ∷ []))
    -- `grid_column_zeros`
    ∷ (at_masks (λ m. column_zeros_number m 2 4 4) ++ (column_zeros_number whole 3 3 3 ∷ column_zeros_number whole 2 4 3 ∷ []))
    ∷ []

-- the statement: each of a family's calls has an input for each of the family's numbers except 7
abbrev pub Witnessed : Type 0
Witnessed = (f : Family) → witnesses f ≡ but_seven (may_give f) ∷ replicate (length (drop 1 (witnesses f))) (but_seven (may_give f))
