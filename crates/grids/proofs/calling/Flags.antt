-- For callers in other crates: the flags of a row, of a column and of the transposed grid by their index, and why a call was accepted. The
-- premises are the clauses of the call at an `Ok`, in the order in which a proof cites them: `refused`, the record, the bytes.
use Rattle.std.proofs.Common.{◌≡◌, sym, ap, ap₂, ◌∙◌, ℕ, ◌+◌, ◌*◌, ◌<◌, ◌≤◌, Bool, false, List, length, get_or, arith}
use Rattle.words.specs.Flags.{flags_of, window}
use Rattle.masks.specs.Checks.{first_failed}
use Rattle.masks.specs.Frozen.{frozen_size, with_frozen}
use Rattle.masks.specs.Mask.{mask_flags, sliced_mask, written_mask}
use Rattle.masks.specs.declared.bitmap.Bitmap.{Bitmap}
use Rattle.masks.proofs.theorems.WrittenLaws.{frozen-window}
use Rattle.grids.specs.Columns.{column_checks}
use Rattle.grids.specs.Grid.{column_flags, counts_checks, row_flags, transposed}
use Rattle.grids.specs.Rows.{row_checks}
use Rattle.grids.specs.Transpose.{transpose_checks}
use Rattle.grids.proofs.grid.CheckLaws.{ColumnAllowed, GridAllowed, column-allowed, counts-allowed, row-allowed, transpose-allowed}
use Rattle.grids.proofs.grid.FlagLaws.{at-column, at-row, flag-transposed, length-column, length-transposed}
use Rattle.grids.proofs.rows.RowZeros.{row-stretch}

-- ---- why a call was accepted: of the grid `starts`, `short`, `inside` its bytes, `counted`, and `grid`, that rows * columns is its length

-- `grid_row`: the grid's, and that there is such a row
pub row_accepted : (m : Bitmap) (bytes : List ℕ) (rows columns r : ℕ) → 0 ≡ first_failed (row_checks m bytes rows columns r)
    → GridAllowed m bytes rows columns × (r < rows)
row_accepted m bytes rows columns r e = row-allowed m bytes rows columns r (sym e)

-- `grid_column`: `grid`, `inside`, that there is such a column, and `room`, that the output holds it
pub column_accepted : (m : Bitmap) (bytes : List ℕ) (rows columns c size : ℕ) → 0 ≡ first_failed (column_checks m bytes rows columns c size)
    → ColumnAllowed m bytes rows columns c size
column_accepted m bytes rows columns c size e = column-allowed m bytes rows columns c size (sym e)

-- `grid_transpose`: the grid's, and that the output holds it
pub transpose_accepted : (m : Bitmap) (bytes : List ℕ) (rows columns size : ℕ)
    → 0 ≡ first_failed (transpose_checks m bytes rows columns size) → GridAllowed m bytes rows columns × (frozen_size m.length ≤ size)
transpose_accepted m bytes rows columns size e = transpose-allowed m bytes rows columns size (sym e)

-- `grid_row_zeros`, with n the rows, and `grid_column_zeros`, with n the columns: the grid's, and that there is a place for each count
pub counts_accepted : (m : Bitmap) (bytes : List ℕ) (rows columns n places : ℕ)
    → 0 ≡ first_failed (counts_checks m bytes rows columns n places) → GridAllowed m bytes rows columns × (n ≤ places)
counts_accepted m bytes rows columns n places e = counts-allowed m bytes rows columns n places (sym e)

-- ---- the flags

pub at_row : (m : Bitmap) (bytes : List ℕ) (rows columns r : ℕ) (s : Bitmap) (c : ℕ)
    → 0 ≡ first_failed (row_checks m bytes rows columns r) → s ≡ sliced_mask m bytes (r * columns) columns → c < columns
    → get_or (mask_flags s bytes) c false ≡ get_or (mask_flags m bytes) (r * columns + c) false
at_row m bytes rows columns r s c e made h =
    let ok = row-allowed m bytes rows columns r (sym e) in
    ap (λ (x : Bitmap). get_or (mask_flags x bytes) c false) made
    ∙ ap (λ (l : List Bool). get_or l c false)
    (sym (row-stretch (flags_of bytes) m.start rows columns r ok.1)
    ∙ ap (λ (n : ℕ). row_flags (window (flags_of bytes) m.start n) columns r) ok.0.grid)
    ∙ at-row (mask_flags m bytes) columns r c h

pub at_column : (m : Bitmap) (bytes : List ℕ) (rows columns c : ℕ) (out : List ℕ) (s : Bitmap) (new : List ℕ) (r : ℕ)
    → 0 ≡ first_failed (column_checks m bytes rows columns c (length out)) → s ≡ written_mask m rows
    → new ≡ with_frozen out (column_flags (mask_flags m bytes) rows columns c) → r < rows
    → get_or (mask_flags s new) r false ≡ get_or (mask_flags m bytes) (r * columns + c) false
at_column m bytes rows columns c out s new r e made written h =
    let ok = column-allowed m bytes rows columns c (length out) (sym e) in
    let l : List Bool = mask_flags m bytes in
    ap₂ (λ (x : Bitmap) (b : List ℕ). get_or (mask_flags x b) r false) made written
    ∙ ap (λ (k : List Bool). get_or k r false)
    (frozen-window out (column_flags l rows columns c) rows (length-column l rows columns c) ok.room)
    ∙ at-column l rows columns c r h

pub at_transposed : (m : Bitmap) (bytes : List ℕ) (rows columns : ℕ) (out : List ℕ) (t : Bitmap) (new : List ℕ) (r c : ℕ)
    → 0 ≡ first_failed (transpose_checks m bytes rows columns (length out)) → t ≡ written_mask m m.length
    → new ≡ with_frozen out (transposed (mask_flags m bytes) rows columns) → r < rows → c < columns
    → get_or (mask_flags t new) (c * rows + r) false ≡ get_or (mask_flags m bytes) (r * columns + c) false
at_transposed m bytes rows columns out t new r c e made written p q =
    let ok = transpose-allowed m bytes rows columns (length out) (sym e) in
    let l : List Bool = mask_flags m bytes in
    ap₂ (λ (x : Bitmap) (b : List ℕ). get_or (mask_flags x b) (c * rows + r) false) made written
    ∙ ap (λ (k : List Bool). get_or k (c * rows + r) false)
    (frozen-window out (transposed l rows columns) m.length (omega (arith, length-transposed l rows columns, ok.0.grid)) ok.1)
    ∙ flag-transposed l rows columns r c p q
