-- Two histories that come to masks with equal lists: the calls on a grid answer alike, and as the plain list gives. Not only those that
-- make a mask and are calls of a history, also those that write counts.
use Rattle.std.specs.Prelude.{ℕ, ◌≡◌, List, Bool, length, map, take}
use Rattle.masks.specs.Mask.{mask_flags}
use Rattle.masks.specs.Utils.{zeros}
use Rattle.masks.specs.declared.bitmap.Bitmap.{Bitmap}
use Rattle.masks.specs.equations.Answer.{given}
use Rattle.grids.specs.equations.Columns.{grid_column_bytes, grid_column_of, grid_column_zeros_of, grid_column_zeros_over}
use Rattle.grids.specs.equations.Rows.{grid_row_of, grid_row_zeros_of, grid_row_zeros_over}
use Rattle.grids.specs.equations.Transpose.{grid_transpose_bytes, grid_transpose_of}
use Rattle.histories.proofs.statements.Agreement.{ComesTo}
use Rattle.histories.proofs.statements.History.{History, list_of}
use Rattle.histories.proofs.statements.Library.{library_call, LibraryCall}
use Rattle.histories.specs.ReferenceList.{column_of, exchanged, row_of, up_from}

-- what the plain list gives as counts: the zeros of each row, and of each column
abbrev pub row_counts : ℕ → ℕ → List Bool → List ℕ
row_counts rows columns l = map (λ (r : ℕ). zeros (row_of columns r l)) (up_from 0 rows)

abbrev pub column_counts : ℕ → ℕ → List Bool → List ℕ
column_counts rows columns l = map (λ (c : ℕ). zeros (column_of rows columns c l)) (up_from 0 columns)

-- two values are equal, and each is the one that is meant
pub record Both {A : Type 0} (meant x y : A) : Type 0 where
  pub equal : x ≡ y
  pub first : x ≡ meant
  pub second : y ≡ meant

-- what two masks, each in its bytes, have in common as a grid of rows and columns, and with the list l; a line with two `given` is about
-- calls of which both were accepted, each with an output or places of its own
pub record CallsAlike (m : Bitmap) (bytes : List ℕ) (m' : Bitmap) (bytes' : List ℕ) (l : List Bool) (rows columns : ℕ) : Type 0 where
  -- the masks have equal flags
  pub row : (r : ℕ) (s s' : Bitmap)
      → given s ≡ grid_row_of m bytes rows columns r → given s' ≡ grid_row_of m' bytes' rows columns r
      → Both (row_of columns r l) (mask_flags s bytes) (mask_flags s' bytes')
  pub column : (c : ℕ) (s s' : Bitmap) (out out' : List ℕ)
      → given s ≡ grid_column_of m bytes rows columns c (length out) → given s' ≡ grid_column_of m' bytes' rows columns c (length out')
      → Both (column_of rows columns c l) (mask_flags s (grid_column_bytes m bytes rows columns c out))
      (mask_flags s' (grid_column_bytes m' bytes' rows columns c out'))
  pub transpose : (t t' : Bitmap) (out out' : List ℕ)
      → given t ≡ grid_transpose_of m bytes rows columns (length out) → given t' ≡ grid_transpose_of m' bytes' rows columns (length out')
      → Both (exchanged rows columns l) (mask_flags t (grid_transpose_bytes m bytes rows columns out))
      (mask_flags t' (grid_transpose_bytes m' bytes' rows columns out'))
  -- as many counts are written, and they are equal
  pub row_zeros : (n n' : ℕ) (counts counts' : List ℕ)
      → given n ≡ grid_row_zeros_of m bytes rows columns (length counts)
      → given n' ≡ grid_row_zeros_of m' bytes' rows columns (length counts')
      → Both rows n n'
      × Both (row_counts rows columns l) (take n (grid_row_zeros_over m bytes rows columns counts))
      (take n' (grid_row_zeros_over m' bytes' rows columns counts'))
  pub column_zeros : (n n' : ℕ) (counts counts' : List ℕ)
      → given n ≡ grid_column_zeros_of m bytes rows columns (length counts)
      → given n' ≡ grid_column_zeros_of m' bytes' rows columns (length counts')
      → Both columns n n'
      × Both (column_counts rows columns l) (take n (grid_column_zeros_over m bytes rows columns counts))
      (take n' (grid_column_zeros_over m' bytes' rows columns counts'))

-- the statement, for all rows and columns
pub record GridsAlike : Type 0 where
  pub alike : (h h' : History LibraryCall) (m m' : Bitmap) (bytes bytes' : List ℕ)
      → ComesTo library_call h m bytes → ComesTo library_call h' m' bytes' → list_of library_call h ≡ list_of library_call h'
      → (rows columns : ℕ) → CallsAlike m bytes m' bytes' (list_of library_call h) rows columns
