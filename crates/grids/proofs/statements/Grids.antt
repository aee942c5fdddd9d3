-- What the calls on a grid return and write, and what these are to one another: of a mask with its bytes, and any numbers of rows and
-- columns. A line with `given` is about calls that were accepted.
use Rattle.std.specs.Prelude.{ℕ, ◌+◌, ◌*◌, ◌/◌, ◌≤◌, ◌<◌, ◌≡◌, Bool, false, List, take, get_or, length, sum}
use Rattle.masks.specs.Mask.{mask_flags}
use Rattle.masks.specs.Utils.{zeros}
use Rattle.masks.specs.declared.bitmap.Bitmap.{Bitmap}
use Rattle.masks.specs.equations.Answer.{given, refused}
use Rattle.masks.specs.equations.Mask.{slice_of}
use Rattle.grids.specs.Grid.{column_flags, column_zeros, listing, row_flags, row_zeros, transposed}
use Rattle.grids.specs.equations.Columns.{grid_column_bytes, grid_column_of, grid_column_zeros_of, grid_column_zeros_over}
use Rattle.grids.specs.equations.Rows.{grid_row_of, grid_row_zeros_of, grid_row_zeros_over}
use Rattle.grids.specs.equations.Transpose.{grid_transpose_bytes, grid_transpose_of}

-- of lists: a list of rows * columns flags
pub record ListsAgree (l : List Bool) (rows columns : ℕ) : Type 0 where
  pub twice : transposed (transposed l rows columns) columns rows ≡ l
  pub rows_are_columns : (c : ℕ) → c < columns → row_flags (transposed l rows columns) rows c ≡ column_flags l rows columns c
  pub row_sum : sum (row_zeros l rows columns) ≡ zeros l
  pub column_sum : sum (column_zeros l rows columns) ≡ zeros l

-- the flag of row r, column c
abbrev pub flag_of : Bitmap → List ℕ → ℕ → ℕ → ℕ → Bool
flag_of m bytes columns r c = get_or (mask_flags m bytes) (r * columns + c) false

pub record GridsAgree (m : Bitmap) (bytes : List ℕ) (rows columns : ℕ) : Type 0 where
  -- flag c of row r, flag r of column c, and flag c * rows + r of the transposed grid are each the flag of row r, column c
  pub in_row : (r c : ℕ) (s : Bitmap) → given s ≡ grid_row_of m bytes rows columns r → c < columns
      → get_or (mask_flags s bytes) c false ≡ flag_of m bytes columns r c
  pub in_column : (r c : ℕ) (s : Bitmap) (out : List ℕ) → given s ≡ grid_column_of m bytes rows columns c (length out) → r < rows
      → get_or (mask_flags s (grid_column_bytes m bytes rows columns c out)) r false ≡ flag_of m bytes columns r c
  pub in_transposed : (r c : ℕ) (t : Bitmap) (out : List ℕ) → given t ≡ grid_transpose_of m bytes rows columns (length out)
      → r < rows → c < columns
      → get_or (mask_flags t (grid_transpose_bytes m bytes rows columns out)) (c * rows + r) false ≡ flag_of m bytes columns r c
  -- the flags of a row are `columns`, those of a column `rows`, those of the transposed grid as many as the mask's
  pub row_size : (r : ℕ) (s : Bitmap) → given s ≡ grid_row_of m bytes rows columns r → s.length ≡ columns
  pub column_size : (c size : ℕ) (s : Bitmap) → given s ≡ grid_column_of m bytes rows columns c size → s.length ≡ rows
  pub transposed_size : (size : ℕ) (t : Bitmap) → given t ≡ grid_transpose_of m bytes rows columns size → t.length ≡ m.length
  -- count r and count c are the zeros of these
  pub row_count : (r n : ℕ) (counts : List ℕ) → given n ≡ grid_row_zeros_of m bytes rows columns (length counts) → r < rows
      → get_or (grid_row_zeros_over m bytes rows columns counts) r 0 ≡ zeros (listing columns (λ c. flag_of m bytes columns r c))
  pub column_count : (c n : ℕ) (counts : List ℕ) → given n ≡ grid_column_zeros_of m bytes rows columns (length counts) → c < columns
      → get_or (grid_column_zeros_over m bytes rows columns counts) c 0 ≡ zeros (listing rows (λ r. flag_of m bytes columns r c))
  -- transposing a second time, with rows and columns exchanged, restores the list
  pub twice : (t u : Bitmap) (out back : List ℕ) → given t ≡ grid_transpose_of m bytes rows columns (length out)
      → given u ≡ grid_transpose_of t (grid_transpose_bytes m bytes rows columns out) columns rows (length back)
      → mask_flags u (grid_transpose_bytes t (grid_transpose_bytes m bytes rows columns out) columns rows back) ≡ mask_flags m bytes
  -- row c of the transposed grid is column c
  pub rows_are_columns : (c : ℕ) (t s d : Bitmap) (out own : List ℕ) → given t ≡ grid_transpose_of m bytes rows columns (length out)
      → given s ≡ grid_row_of t (grid_transpose_bytes m bytes rows columns out) columns rows c
      → given d ≡ grid_column_of m bytes rows columns c (length own)
      → mask_flags s (grid_transpose_bytes m bytes rows columns out) ≡ mask_flags d (grid_column_bytes m bytes rows columns c own)
  -- a row that is there is what `slice` returns of the same flags, accepted or refused
  pub as_slice : (r : ℕ) → rows * columns ≡ m.length → r < rows
      → grid_row_of m bytes rows columns r ≡ slice_of m bytes (r * columns) columns
  -- the mask over the transposed grid is accepted: transposed again, which gives its record, if there is room, and for each of its rows
  pub back : (t : Bitmap) (out : List ℕ) (size : ℕ) → given t ≡ grid_transpose_of m bytes rows columns (length out)
      → 8 * ((m.length + 63) / 64) ≤ size
      → given t ≡ grid_transpose_of t (grid_transpose_bytes m bytes rows columns out) columns rows size
  pub rows_accepted : (c : ℕ) (t : Bitmap) (out : List ℕ) → given t ≡ grid_transpose_of m bytes rows columns (length out) → c < columns
      → (s : Bitmap) × (given s ≡ grid_row_of t (grid_transpose_bytes m bytes rows columns out) columns rows c)
  -- the counts of the rows, and those of the columns, add up to the zeros of the mask; so many are written as is said
  pub row_sum : (n : ℕ) (counts : List ℕ) → given n ≡ grid_row_zeros_of m bytes rows columns (length counts)
      → (n ≡ rows) × (sum (take n (grid_row_zeros_over m bytes rows columns counts)) ≡ zeros (mask_flags m bytes))
  pub column_sum : (n : ℕ) (counts : List ℕ) → given n ≡ grid_column_zeros_of m bytes rows columns (length counts)
      → (n ≡ columns) × (sum (take n (grid_column_zeros_over m bytes rows columns counts)) ≡ zeros (mask_flags m bytes))

-- what is not written: how many places or bytes there are, places past the last count, and bytes past the frozen ones; and all, if a call
-- is refused
pub record GridsKept (m : Bitmap) (bytes : List ℕ) (rows columns : ℕ) : Type 0 where
  pub row_long : (counts : List ℕ) → length (grid_row_zeros_over m bytes rows columns counts) ≡ length counts
  pub column_long : (counts : List ℕ) → length (grid_column_zeros_over m bytes rows columns counts) ≡ length counts
  pub column_bytes_long : (c : ℕ) (out : List ℕ) → length (grid_column_bytes m bytes rows columns c out) ≡ length out
  pub transposed_long : (out : List ℕ) → length (grid_transpose_bytes m bytes rows columns out) ≡ length out
  pub row_places : (counts : List ℕ) (k : ℕ) → rows ≤ k → get_or (grid_row_zeros_over m bytes rows columns counts) k 0 ≡ get_or counts k 0
  pub column_places : (counts : List ℕ) (k : ℕ) → columns ≤ k
      → get_or (grid_column_zeros_over m bytes rows columns counts) k 0 ≡ get_or counts k 0
  pub column_bytes : (c : ℕ) (out : List ℕ) (k : ℕ) → 8 * ((rows + 63) / 64) ≤ k
      → get_or (grid_column_bytes m bytes rows columns c out) k 0 ≡ get_or out k 0
  pub transposed_bytes : (out : List ℕ) (k : ℕ) → 8 * ((m.length + 63) / 64) ≤ k
      → get_or (grid_transpose_bytes m bytes rows columns out) k 0 ≡ get_or out k 0
  pub row_zeros_refused : (number : ℕ) (counts : List ℕ) → refused number tt ≡ grid_row_zeros_of m bytes rows columns (length counts)
      → grid_row_zeros_over m bytes rows columns counts ≡ counts
  pub column_zeros_refused : (number : ℕ) (counts : List ℕ) → refused number tt ≡ grid_column_zeros_of m bytes rows columns (length counts)
      → grid_column_zeros_over m bytes rows columns counts ≡ counts
  pub column_refused : (c number : ℕ) (out : List ℕ) → refused number tt ≡ grid_column_of m bytes rows columns c (length out)
      → grid_column_bytes m bytes rows columns c out ≡ out
  pub transpose_refused : (number : ℕ) (out : List ℕ) → refused number tt ≡ grid_transpose_of m bytes rows columns (length out)
      → grid_transpose_bytes m bytes rows columns out ≡ out
