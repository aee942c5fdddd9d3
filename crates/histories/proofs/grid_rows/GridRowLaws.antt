-- The rows of grids are lawful: `grid_row`, `grid_column` and `grid_transpose`.
use mathlib.Core.Path.{◌≡◌, sym, ap, ◌∙◌}
use mathlib.Core.List.{List, [], ◌∷◌, ◌++◌}
use Prim.Native.Nat.{ℕ, zero, suc, ◌*◌, ◌<◌, ◌≤◌}
use native.Mathlib.Omega.{arith}
use lib.Dec.{ltb}
use lib.ListN.{length}
use Rattle.words.specs.Flags.{flags_of}
use Rattle.words.proofs.flags.Windows.{length-window}
use Rattle.masks.specs.Checks.{Check, check, first_failed, output_checks}
use Rattle.masks.specs.Mask.{mask_checks, sliced_mask, uncounted}
use Rattle.masks.specs.declared.bitmap.Bitmap.{Bitmap}
use Rattle.masks.specs.equations.Answer.{checked, decided, given, refused}
use Rattle.masks.specs.equations.Mask.{slice_of}
use Rattle.masks.proofs.bitmap.MaskLaws.{mask-truthful}
use Rattle.masks.proofs.checks.CheckLaws.{both_left}
use Rattle.masks.proofs.refusal.AnswerLaws.{given-number, refused-state}
use Rattle.masks.proofs.theorems.SliceTruth.{none_true}
use Rattle.grids.specs.Columns.{column_checks}
use Rattle.grids.specs.Grid.{column_flags, grid_checks, is_grid, transposed}
use Rattle.grids.specs.Rows.{row_checks}
use Rattle.grids.specs.Transpose.{transpose_checks}
use Rattle.grids.specs.equations.Columns.{grid_column_bytes, grid_column_of}
use Rattle.grids.specs.equations.Rows.{grid_row_of}
use Rattle.grids.specs.equations.Transpose.{grid_transpose_bytes, grid_transpose_of}
use Rattle.grids.proofs.grid.CheckLaws.{column-allowed, row-allowed, transpose-allowed}
use Rattle.grids.proofs.grid.FlagLaws.{length-column, length-transposed}
use Rattle.grids.proofs.rows.RowLaws.{same-number}
use Rattle.histories.specs.GridRows.{GridCall, grid_call, grid_column, grid_column_row, grid_row, grid_row_row, grid_transpose}
use Rattle.histories.specs.GridRows.{grid_transpose_row}
use Rattle.histories.specs.ReferenceList.{column_of, exchanged}
use Rattle.histories.specs.Rows.{Every, Lent, one}
use Rattle.histories.proofs.grid_rows.GridWordLaws.{column-word, exchanged-word}
use Rattle.histories.proofs.rows.MaskRowLaws.{slice_lawful}
use Rattle.histories.proofs.rows.RowLaws.{Writable, written_stands}
use Rattle.histories.proofs.statements.Owed.{Honest, Lawful, LawfulKeeps, LawfulWrites, lent_flags}

-- ---- one row

-- if it is accepted, it is the slice that is accepted
as-slice : (rows columns row : ℕ) (m : Bitmap) (bytes : List ℕ) (g : Bitmap) → grid_row_of m bytes rows columns row ≡ given g
    → slice_of m bytes (row * columns) columns ≡ given g
unfolding grid_row_of slice_of
as-slice rows columns row m bytes g e =
    let s = sliced_mask m bytes (row * columns) columns in
    let k = first_failed (row_checks m bytes rows columns row) in
    let ok = row-allowed m bytes rows columns row (sym (given-number k m g s (sym e))) in
    ap (λ (k : ℕ). decided k m s) (same-number m bytes rows columns row ok.0.grid ok.1) ∙ e

row-left : (rows columns row : ℕ) (m : Bitmap) (bytes : List ℕ) (k : ℕ) (g : Bitmap) → grid_row_of m bytes rows columns row ≡ refused k g
    → g ≡ m
unfolding grid_row_of
row-left rows columns row m bytes k g e = refused-state k _ g m (sliced_mask m bytes (row * columns) columns) (sym e)

pub row_lawful : (rows columns row : ℕ) → LawfulKeeps (grid_row_row rows columns row)
row_lawful rows columns row =
    record {
      made = λ m bytes s g e. (slice_lawful (row * columns) columns).made m bytes s g (as-slice rows columns row m bytes g e);
      left = row-left rows columns row;
    }

-- ---- one column, and all of them

passed : (cs : List Check) (m g : Bitmap) → checked cs (tt {0}) m ≡ given g → first_failed cs ≡ 0
passed cs m g e = sym (given-number (first_failed cs) tt g m (sym e))

-- a mask whose checks as a grid pass has an unknown or a true count
honest : (x : Lent) (rows columns : ℕ) (rest : List Check) → first_failed (grid_checks x.mask x.bytes rows columns ++ rest) ≡ 0
    → Every Honest 1 (one x)
unfolding grid_checks
honest x rows columns rest e =
    let twelve : List Check = check 12 (is_grid rows columns x.mask) ∷ [] in
    let first = mask_checks x.mask x.bytes in
    (mask-truthful x.mask x.bytes (both_left first twelve (both_left (first ++ twelve) rest e)), tt)

-- a grid that has a column has at least as many flags as rows
rows-inside : (rows columns column : ℕ) → column < columns → rows ≤ rows * columns
rows-inside rows zero column h = absurd (omega arith)
rows-inside rows (suc columns) column h = omega arith

column_writable : (rows columns column : ℕ) (x : Lent) (out : List ℕ)
    → first_failed (column_checks x.mask x.bytes rows columns column (length out)) ≡ 0
    → Writable rows (uncounted rows) (column_flags (lent_flags x) rows columns column) (column_of rows columns column (lent_flags x)) out
column_writable rows columns column x out e =
    let ok = column-allowed x.mask x.bytes rows columns column (length out) e in
    let size = length-window (flags_of x.bytes) x.mask.start x.mask.length ∙ sym ok.grid.grid in
    let long = length-column (lent_flags x) rows columns column in
    record {
      long = long;
      short = omega (arith, rows-inside rows columns column ok.inside, ok.grid.grid, ok.grid.short);
      room = ok.room;
      same = column-word (lent_flags x) rows columns column size ok.inside;
      counts = none_true rows (column_flags (lent_flags x) rows columns column) long;
    }

pub column_lawful : (rows columns column : ℕ) (out : List ℕ) → LawfulWrites (grid_column_row rows columns column out)
unfolding grid_column_of grid_column_bytes column_checks
column_lawful rows columns column out =
    record {
      honest = λ a g e. honest a.0 rows columns (check 6 (ltb column columns) ∷ output_checks rows (length out)) (passed _ _ g e);
      made = λ a g e. written_stands _ _ _ _ _ _ out g e (column_writable rows columns column a.0 out);
    }

transposed_writable : (rows columns : ℕ) (x : Lent) (out : List ℕ)
    → first_failed (transpose_checks x.mask x.bytes rows columns (length out)) ≡ 0
    → Writable x.mask.length (uncounted x.mask.length) (transposed (lent_flags x) rows columns) (exchanged rows columns (lent_flags x)) out
transposed_writable rows columns x out e =
    let ok = transpose-allowed x.mask x.bytes rows columns (length out) e in
    let size = length-window (flags_of x.bytes) x.mask.start x.mask.length ∙ sym ok.0.grid in
    let long : length (transposed (lent_flags x) rows columns) ≡ x.mask.length
    = omega (arith, length-transposed (lent_flags x) rows columns, ok.0.grid) in
    record {
      long = long;
      short = ok.0.short;
      room = ok.1;
      same = exchanged-word (lent_flags x) rows columns size;
      counts = none_true x.mask.length (transposed (lent_flags x) rows columns) long;
    }

pub transpose_lawful : (rows columns : ℕ) (out : List ℕ) → LawfulWrites (grid_transpose_row rows columns out)
unfolding grid_transpose_of grid_transpose_bytes transpose_checks
transpose_lawful rows columns out =
    record {
      honest = λ a g e. honest a.0 rows columns (output_checks a.0.mask.length (length out)) (passed _ _ g e);
      made = λ a g e. written_stands _ _ _ _ _ _ out g e (transposed_writable rows columns a.0 out);
    }

-- ---- the table

pub grids_lawful : (c : GridCall) → Lawful (grid_call c)
grids_lawful (grid_row rows columns row) = row_lawful rows columns row
grids_lawful (grid_column rows columns column out a) = column_lawful rows columns column out
grids_lawful (grid_transpose rows columns out a) = transpose_lawful rows columns out
