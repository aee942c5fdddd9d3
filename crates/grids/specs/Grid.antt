-- A list of flags as a grid of rows and columns: flag r * columns + c is the one of row r, column c. Its rows, its columns, the grid with
-- both exchanged, and their zeros; and the checks that the calls share.
use Rattle.std.specs.Prelude.{ℕ, zero, suc, ◌+◌, ◌*◌, Bool, false, List, [], ◌∷◌, ◌++◌, get_or, eqb, leb}
use Rattle.masks.specs.Checks.{Check, check}
use Rattle.masks.specs.Mask.{mask_checks}
use Rattle.masks.specs.Utils.{zeros}
use Rattle.masks.specs.declared.bitmap.Bitmap.{Bitmap}

-- ---- the flags

-- f 0, f 1, and so on: n of them
unfoldable pub listing : {A : Type 0} → ℕ → (ℕ → A) → List A
listing zero f = []
listing (suc n) f = f 0 ∷ listing n (λ k. f (suc k))

-- the lists f 0, f 1, and so on, one after another: n of them
unfoldable pub concatenated : ℕ → (ℕ → List Bool) → List Bool
concatenated zero f = []
concatenated (suc n) f = f 0 ++ concatenated n (λ k. f (suc k))

-- the flag of row r, column c
abbrev pub flag_in : List Bool → ℕ → ℕ → ℕ → Bool
flag_in l columns r c = get_or l (r * columns + c) false

-- row r: its flags of column 0, 1, and so on
unfoldable pub row_flags : List Bool → ℕ → ℕ → List Bool
row_flags l columns r = listing columns (λ c. flag_in l columns r c)

-- column c: its flags of row 0, 1, and so on
unfoldable pub column_flags : List Bool → ℕ → ℕ → ℕ → List Bool
column_flags l rows columns c = listing rows (λ r. flag_in l columns r c)

-- the grid with rows and columns exchanged: its rows are the columns
unfoldable pub transposed : List Bool → ℕ → ℕ → List Bool
transposed l rows columns = concatenated columns (column_flags l rows columns)

-- the zeros of row 0, row 1, and so on
unfoldable pub row_zeros : List Bool → ℕ → ℕ → List ℕ
row_zeros l rows columns = listing rows (λ r. zeros (row_flags l columns r))

-- the zeros of column 0, column 1, and so on
unfoldable pub column_zeros : List Bool → ℕ → ℕ → List ℕ
column_zeros l rows columns = listing columns (λ c. zeros (column_flags l rows columns c))

-- ---- the checks

-- check 12: the mask has as many flags as there are rows * columns, exact
abbrev pub is_grid : ℕ → ℕ → Bitmap → Bool
is_grid rows columns m = eqb (rows * columns) m.length

-- checks 1 to 3 of a mask, and 12
unfoldable pub grid_checks : Bitmap → List ℕ → ℕ → ℕ → List Check
grid_checks m bytes rows columns = mask_checks m bytes ++ (check 12 (is_grid rows columns m) ∷ [])

-- checks 1 to 3 and 12, and 9 of n counts: there are as many places
unfoldable pub counts_checks : Bitmap → List ℕ → ℕ → ℕ → ℕ → ℕ → List Check
counts_checks m bytes rows columns n places = grid_checks m bytes rows columns ++ (check 9 (leb n places) ∷ [])
