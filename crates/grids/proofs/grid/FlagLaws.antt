-- Rows, columns and the transposed grid, flag by flag.
use Rattle.std.proofs.Common.{◌≡◌, ◌∙◌, ℕ, ◌*◌, ◌<◌, Bool, false, List, length, get_or}
use Rattle.grids.specs.Grid.{column_flags, flag_in, row_flags, transposed}
use Rattle.grids.proofs.grid.ListingLaws.{at-concatenated, at-listing, length-concatenated, length-listing}

pub length-row : (l : List Bool) (columns r : ℕ) → length (row_flags l columns r) ≡ columns
unfolding row_flags
length-row l columns r = length-listing columns (λ c. flag_in l columns r c)

pub length-column : (l : List Bool) (rows columns c : ℕ) → length (column_flags l rows columns c) ≡ rows
unfolding column_flags
length-column l rows columns c = length-listing rows (λ r. flag_in l columns r c)

pub length-transposed : (l : List Bool) (rows columns : ℕ) → length (transposed l rows columns) ≡ columns * rows
unfolding transposed
length-transposed l rows columns = length-concatenated columns rows (column_flags l rows columns) (length-column l rows columns)

pub at-row : (l : List Bool) (columns r c : ℕ) → c < columns → get_or (row_flags l columns r) c false ≡ flag_in l columns r c
unfolding row_flags
at-row l columns r c p = at-listing columns (λ c. flag_in l columns r c) c false p

pub at-column : (l : List Bool) (rows columns c r : ℕ) → r < rows
    → get_or (column_flags l rows columns c) r false ≡ flag_in l columns r c
unfolding column_flags
at-column l rows columns c r p = at-listing rows (λ r. flag_in l columns r c) r false p

pub flag-transposed : (l : List Bool) (rows columns r c : ℕ) → r < rows → c < columns
    → flag_in (transposed l rows columns) rows c r ≡ flag_in l columns r c
unfolding transposed
flag-transposed l rows columns r c p q =
    at-concatenated columns rows (column_flags l rows columns) c r (length-column l rows columns) q p ∙ at-column l rows columns c r p
