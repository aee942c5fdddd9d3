-- Wrong answers that the contracts of the calls on a grid rule out, two for each row.
--
-- Rows as in `WrongAnswers` of words. An answer of a call that writes is paired with what the lent output then holds.
use Rattle.std.specs.Prelude.{ℕ, List, [], ◌∷◌, ◌++◌, Option, Some, None}
use Rattle.masks.specs.declared.bitmap.Bitmap.{Bitmap}
use Rattle.masks.specs.equations.Answer.{Answer, given, refused}
use Rattle.masks.specs.Mask.{mask_of, mask_under}
use Rattle.masks.proofs.tables.Examples.{first, lent}
use Rattle.masks.proofs.tables.WrongMasks.{Tried, Written}
use Rattle.grids.specs.equations.Columns.{grid_column_bytes, grid_column_of, grid_column_zeros_of, grid_column_zeros_over}
use Rattle.grids.specs.equations.Rows.{grid_row_of, grid_row_zeros_of, grid_row_zeros_over}
use Rattle.grids.specs.equations.Transpose.{grid_transpose_bytes, grid_transpose_of}

-- ---- inputs: under serial 5 the flags 1,0,0 and 1,1,1, two rows of three, starting at flag 1 with a one before them

abbrev pub six : Option ℕ → Bitmap
six u = mask_under 5 1 6 u

abbrev pub six_bytes : List ℕ
six_bytes = 0x73 ∷ []

-- ---- calls over lent bytes and places, and their answers

abbrev pub column_in : ℕ → List ℕ → Written
column_in c out = (grid_column_of (six (Some 2)) six_bytes 2 3 c 9, grid_column_bytes (six (Some 2)) six_bytes 2 3 c out)

abbrev pub transposed_in : ℕ → ℕ → List ℕ → Written
transposed_in rows columns out =
    (grid_transpose_of (six (Some 2)) six_bytes rows columns 9, grid_transpose_bytes (six (Some 2)) six_bytes rows columns out)

abbrev pub Counted : Type 0
Counted = Answer (Unit {0}) ℕ × List ℕ

abbrev pub row_zeros_in : List ℕ → Counted
row_zeros_in counts = (grid_row_zeros_of (six None) six_bytes 2 3 4, grid_row_zeros_over (six None) six_bytes 2 3 counts)

abbrev pub column_zeros_in : List ℕ → Counted
column_zeros_in counts = (grid_column_zeros_of (six None) six_bytes 2 3 4, grid_column_zeros_over (six None) six_bytes 2 3 counts)

abbrev pub in_places : ℕ → List ℕ → Counted
in_places n counts = (given n, counts)

abbrev pub sevens : List ℕ
sevens = 7 ∷ 7 ∷ 7 ∷ 7 ∷ []

abbrev pub in_bytes : Bitmap → ℕ → Written
in_bytes m b = (given m, first b ++ lent 1)

pub record WrongGrids : Type 0 where
  -- `grid_row`: row 1 of two rows of three
  pub row : Tried (grid_row_of (six None) six_bytes 2 3 1)
      (given (mask_under 5 4 3 None))
      -- rows and columns exchanged
      (given (mask_under 5 3 2 None))
      -- serial 0
      (given (mask_of 4 3 None))
  -- `grid_row` with the count known
  pub row-counted : Tried (grid_row_of (six (Some 2)) six_bytes 2 3 1)
      (given (mask_under 5 4 3 (Some 0)))
      -- the count of the whole kept
      (given (mask_under 5 4 3 (Some 2)))
      -- the count unknown, as in a mask that is written
      (given (mask_under 5 4 3 None))
  -- `grid_row`: a row past the end
  pub row-outside : Tried (grid_row_of (six None) six_bytes 2 3 2)
      (refused 6 (six None))
      -- the mask not returned
      (refused 6 (mask_of 0 0 None))
      -- the columns counted in place of the rows
      (given (mask_under 5 7 3 None))
  -- `grid_row` of a mask of no flags: 2^32 * 2^32 is not 0
  pub row-wrapped : Tried (grid_row_of (mask_under 5 0 0 None) [] 4294967296 4294967296 0)
      (refused 12 (mask_under 5 0 0 None))
      -- the product taken modulo 2^64
      (given (mask_under 5 0 0 None))
      -- the start of the row checked first
      (refused 1 (mask_under 5 0 0 None))
  -- `grid_column`: column 1
  pub column : Tried (column_in 1 (lent 9))
      (in_bytes (mask_under 5 0 2 None) 2)
      -- a column that starts at the row's bit
      (in_bytes (mask_under 5 0 2 None) 3)
      -- rows and columns exchanged
      (in_bytes (mask_under 5 0 3 None) 6)
  -- `grid_column`: the record of column 2
  pub column-record : Tried (column_in 2 (lent 9))
      (in_bytes (mask_under 5 0 2 None) 2)
      -- serial 0
      (in_bytes (mask_of 0 2 None) 2)
      -- the count known
      (in_bytes (mask_under 5 0 2 (Some 1)) 2)
  -- `grid_transpose`: the columns 1,1 and 0,1 and 0,1
  pub transposed : Tried (transposed_in 2 3 (lent 9))
      (in_bytes (mask_under 5 0 6 None) 0x2B)
      -- rows and columns exchanged
      (in_bytes (mask_under 5 0 6 None) 0x35)
      -- the last block cut a row short
      (in_bytes (mask_under 5 0 6 None) 0x0B)
  -- `grid_transpose`: the record, of three rows of two
  pub transposed-record : Tried (transposed_in 3 2 (lent 9))
      (in_bytes (mask_under 5 0 6 None) 0x35)
      -- serial 0
      (in_bytes (mask_of 0 6 None) 0x35)
      -- the count of the mask kept
      (in_bytes (mask_under 5 0 6 (Some 2)) 0x35)
  -- `grid_row_zeros`
  pub row_zeros : Tried (row_zeros_in sevens)
      (in_places 2 (2 ∷ 0 ∷ 7 ∷ 7 ∷ []))
      -- ones counted
      (in_places 2 (1 ∷ 3 ∷ 7 ∷ 7 ∷ []))
      -- the columns counted
      (in_places 3 (0 ∷ 1 ∷ 1 ∷ 7 ∷ []))
  -- `grid_column_zeros`
  pub column_zeros : Tried (column_zeros_in sevens)
      (in_places 3 (0 ∷ 1 ∷ 1 ∷ 7 ∷ []))
      -- ones counted
      (in_places 3 (2 ∷ 1 ∷ 1 ∷ 7 ∷ []))
      -- the places after the last count cleared
      (in_places 3 (0 ∷ 1 ∷ 1 ∷ 0 ∷ []))
