-- Which number a call on a grid refuses with if two checks fail: rows as in `OrderRows` of masks, for 12 with each number that can fail
-- beside it, for 3 and 6 and for 6 and 9, which calls of masks have too, and for what fails where a row would start above the limit. 7 is
-- checked only where 12 and 6 hold.
use Rattle.std.specs.Prelude.{◌≡◌, List, [], ◌∷◌, map, None}
use Rattle.masks.specs.Mask.{mask_of}
use Rattle.masks.proofs.tables.OrderRows.{Both, both, miscounted, past}
use Rattle.masks.proofs.tables.Witnesses.{number_of, too_long, whole}
use Rattle.grids.specs.equations.Rows.{grid_row_of}
use Rattle.grids.proofs.tables.Witnesses.{column_number, column_zeros_number, row_number, row_zeros_number, transpose_number}

unfoldable pub order_rows : List Both
order_rows =
    both 1 12 (row_zeros_number (mask_of too_long 1 None) 2 4 2)
    ∷ both 2 12 (column_zeros_number past 2 4 4)
    ∷ both 3 12 (transpose_number miscounted 2 5 8)
    ∷ both 3 6 (column_number miscounted 2 4 4 0)
    ∷ both 12 6 (row_number whole 3 4 3)
    ∷ both 12 6 (column_number whole 2 5 5 0)
    ∷ both 12 9 (column_zeros_number whole 3 4 0)
    ∷ both 12 9 (transpose_number whole 3 4 0)
    ∷ both 6 9 (column_number whole 2 4 4 0)
    -- a mask of two flags at the limit and no bytes, in two rows: row 1 starts above the limit, row 0 and row 2 are refused for the bytes
    ∷ both 1 2 (number_of (grid_row_of (mask_of 4194304 2 None) [] 2 1 1))
    ∷ both 2 6 (number_of (grid_row_of (mask_of 4194304 2 None) [] 2 1 2))
    ∷ both 2 12 (number_of (grid_row_of (mask_of 4194304 2 None) [] 3 1 1))
    ∷ []

-- the statement: in every row the call refuses with the first of the two numbers
abbrev pub OrderHolds : Type 0
OrderHolds = map (λ (r : Both). r.computed) order_rows ≡ map (λ (r : Both). r.first) order_rows
