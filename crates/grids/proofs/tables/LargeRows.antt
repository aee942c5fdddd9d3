-- Numbers of rows, columns and places just above the limit, at 2^32 and at the largest number of 64 bits; products that would wrap to the
-- length; and grids with no rows or no columns.
--
-- A row has the numbers of a call, through the definition that its contract cites, and those of the reference's words there.
-- `proofs/computed/LargeRows.antt` proves that the columns are equal.
use Rattle.std.specs.Prelude.{List, [], ◌∷◌, None}
use Rattle.masks.specs.declared.bitmap.Bitmap.{Bitmap}
use Rattle.masks.specs.Mask.{mask_under}
use Rattle.masks.proofs.tables.EdgeRows.{SplitRow}
use Rattle.masks.proofs.tables.LargeRows.{Hold, all_give, eight, ones, wide}
use Rattle.masks.proofs.tables.StartRows.{numbers}
use Rattle.masks.proofs.tables.Witnesses.{number_of}
use Rattle.grids.specs.equations.Columns.{grid_column_of, grid_column_zeros_of}
use Rattle.grids.specs.equations.Rows.{grid_row_of, grid_row_zeros_of}
use Rattle.grids.specs.equations.Transpose.{grid_transpose_of}

-- a mask of no flags, its count unknown
abbrev pub empty : Bitmap
empty = mask_under 5 0 0 None

unfoldable pub large_rows : List SplitRow
large_rows =
    -- of eight flags
    all_give 12 (λ x. number_of (grid_row_of eight ones x 1 0))
    ∷ all_give 12 (λ x. number_of (grid_row_of eight ones 1 x 0))
    ∷ all_give 6 (λ x. number_of (grid_row_of eight ones 8 1 x))
    ∷ all_give 12 (λ x. number_of (grid_column_of eight ones x 1 0 8))
    ∷ all_give 12 (λ x. number_of (grid_column_of eight ones 1 x 0 8))
    ∷ all_give 6 (λ x. number_of (grid_column_of eight ones 1 8 x 8))
    ∷ all_give 12 (λ x. number_of (grid_transpose_of eight ones x x 8))
    ∷ all_give 12 (λ x. number_of (grid_row_zeros_of eight ones x x x))
    ∷ all_give 12 (λ x. number_of (grid_column_zeros_of eight ones x x x))
    -- 2^32 * 2^32 and 2^63 * 2 are not 0, nor is (2^61 + 1) * 8 the length 8
    ∷ numbers (number_of (grid_transpose_of empty [] wide wide 0) ∷ []) (12 ∷ [])
    ∷ numbers (number_of (grid_row_of empty [] 9223372036854775808 2 0) ∷ []) (12 ∷ [])
    ∷ numbers (number_of (grid_column_of eight ones 2305843009213693953 8 0 8) ∷ []) (12 ∷ [])
    -- no columns and any number of rows: each row is there, and the counts want a place each
    ∷ all_give 0 (λ x. number_of (grid_transpose_of empty [] x 0 0))
    ∷ numbers (number_of (grid_row_of empty [] wide 0 4294967295) ∷ []) (0 ∷ [])
    ∷ numbers (number_of (grid_row_of empty [] wide 0 wide) ∷ []) (6 ∷ [])
    ∷ all_give 9 (λ x. number_of (grid_row_zeros_of empty [] x 0 2))
    ∷ all_give 0 (λ x. number_of (grid_row_zeros_of empty [] x 0 x))
    ∷ all_give 0 (λ x. number_of (grid_column_zeros_of empty [] x 0 0))
    -- no rows and any number of columns
    ∷ all_give 0 (λ x. number_of (grid_column_of empty [] 0 x 4194304 0))
    ∷ numbers (number_of (grid_column_of empty [] 0 wide wide 0) ∷ []) (6 ∷ [])
    ∷ all_give 6 (λ x. number_of (grid_row_of empty [] 0 x 0))
    ∷ all_give 9 (λ x. number_of (grid_column_zeros_of empty [] 0 x 2))
    ∷ all_give 0 (λ x. number_of (grid_row_zeros_of empty [] 0 x 0))
    ∷ []

pub record LargeHolds : Type 0 where
  pub large : Hold large_rows
