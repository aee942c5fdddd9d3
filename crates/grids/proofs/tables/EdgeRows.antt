-- Both sides of each limit of the calls on a grid, and what a refused call leaves. Rows as in `LargeRows`.
use Rattle.std.specs.Prelude.{ℕ, List, [], ◌∷◌, ◌++◌, replicate, None}
use Rattle.masks.specs.Mask.{mask_of}
use Rattle.masks.proofs.tables.EdgeRows.{SplitRow}
use Rattle.masks.proofs.tables.LargeRows.{Hold}
use Rattle.masks.proofs.tables.StartRows.{numbers}
use Rattle.masks.proofs.tables.Witnesses.{byte, number_of, whole}
use Rattle.grids.specs.equations.Columns.{grid_column_bytes, grid_column_of, grid_column_zeros_over}
use Rattle.grids.specs.equations.Rows.{grid_row_of, grid_row_zeros_over}
use Rattle.grids.specs.equations.Transpose.{grid_transpose_bytes, grid_transpose_of}
use Rattle.grids.proofs.tables.Witnesses.{column_number, column_zeros_number, row_number, row_zeros_number, transpose_number}

-- 72 flags, all set
abbrev pub ones : List ℕ
ones = replicate 9 0xFF

-- the byte 0x2D has the flags 1,0,1,1,0,1,0,0: as 2 rows of 4, 1,0,1,1 and 0,1,0,0
unfoldable pub edge_rows : List SplitRow
edge_rows =
    -- 12: rows * columns is the length.
    numbers (row_number whole 2 4 0 ∷ row_number whole 4 2 0 ∷ row_number whole 8 1 0 ∷ row_number whole 1 8 0 ∷ []) (0 ∷ 0 ∷ 0 ∷ 0 ∷ [])
    ∷ numbers (row_number whole 1 7 0 ∷ row_number whole 1 9 0 ∷ row_number whole 0 8 0 ∷ row_number whole 3 3 0 ∷ [])
    (12 ∷ 12 ∷ 12 ∷ 12 ∷ [])
    -- 6: rows and columns up to the last one.
    ∷ numbers (row_number whole 2 4 1 ∷ row_number whole 2 4 2 ∷ row_number whole 2 4 3 ∷ []) (0 ∷ 6 ∷ 6 ∷ [])
    ∷ numbers (column_number whole 2 4 3 8 ∷ column_number whole 2 4 4 8 ∷ []) (0 ∷ 6 ∷ [])
    -- 9: eight bytes for up to 64 flags, and a place for each count.
    ∷ numbers (column_number whole 8 1 0 8 ∷ column_number whole 8 1 0 7 ∷ []) (0 ∷ 9 ∷ [])
    ∷ numbers (transpose_number whole 2 4 8 ∷ transpose_number whole 2 4 7 ∷ []) (0 ∷ 9 ∷ [])
    -- It is the flags written that need room: two of a column of 66 flags, 65 of one column, all of the grid with both exchanged.
    ∷ numbers
    (number_of (grid_column_of (mask_of 0 66 None) ones 2 33 32 8)
    ∷ number_of (grid_column_of (mask_of 0 65 None) ones 65 1 0 16)
    ∷ number_of (grid_column_of (mask_of 0 65 None) ones 65 1 0 15)
    ∷ [])
    (0 ∷ 0 ∷ 9 ∷ [])
    ∷ numbers
    (number_of (grid_transpose_of (mask_of 0 64 None) ones 8 8 8)
    ∷ number_of (grid_transpose_of (mask_of 0 65 None) ones 13 5 16)
    ∷ number_of (grid_transpose_of (mask_of 0 65 None) ones 13 5 15)
    ∷ [])
    (0 ∷ 0 ∷ 9 ∷ [])
    ∷ numbers (row_zeros_number whole 2 4 2 ∷ row_zeros_number whole 2 4 1 ∷ row_zeros_number whole 4 2 2 ∷ []) (0 ∷ 9 ∷ 9 ∷ [])
    ∷ numbers (column_zeros_number whole 2 4 4 ∷ column_zeros_number whole 2 4 3 ∷ column_zeros_number whole 4 2 2 ∷ []) (0 ∷ 9 ∷ 0 ∷ [])
    -- 1: the start of a row in the bytes, which is checked only for a row of the grid.
    ∷ numbers (number_of (grid_row_of (mask_of 4194303 2 None) [] 2 1 1) ∷ number_of (grid_row_of (mask_of 4194304 2 None) [] 2 1 1) ∷ [])
    (2 ∷ 1 ∷ [])
    ∷ numbers (number_of (grid_row_of (mask_of 4194304 0 None) [] 4 0 3) ∷ number_of (grid_row_of (mask_of 4194305 0 None) [] 4 0 3) ∷ [])
    (2 ∷ 1 ∷ [])
    -- What is written, and what is left past it.
    ∷ numbers (grid_row_zeros_over whole byte 2 4 (7 ∷ 7 ∷ 7 ∷ [])) (1 ∷ 3 ∷ 7 ∷ [])
    ∷ numbers (grid_row_zeros_over whole byte 2 4 (7 ∷ [])) (7 ∷ [])
    ∷ numbers (grid_column_zeros_over whole byte 2 4 (7 ∷ 7 ∷ 7 ∷ 7 ∷ 7 ∷ [])) (1 ∷ 1 ∷ 1 ∷ 1 ∷ 7 ∷ [])
    ∷ numbers (grid_column_zeros_over whole byte 2 5 (7 ∷ 7 ∷ 7 ∷ 7 ∷ 7 ∷ [])) (7 ∷ 7 ∷ 7 ∷ 7 ∷ 7 ∷ [])
    ∷ numbers (grid_column_bytes whole byte 2 4 1 (replicate 9 0xAA)) (2 ∷ (replicate 7 0 ++ (0xAA ∷ [])))
    ∷ numbers (grid_column_bytes whole byte 2 4 4 (replicate 9 0xAA)) (replicate 9 0xAA)
    ∷ numbers (grid_transpose_bytes whole byte 2 4 (replicate 9 0xAA)) (0x59 ∷ (replicate 7 0 ++ (0xAA ∷ [])))
    ∷ numbers (grid_transpose_bytes whole byte 2 4 (replicate 7 0xAA)) (replicate 7 0xAA)
    ∷ []

pub record EdgesHold : Type 0 where
  pub edges : Hold edge_rows
