-- The statement of `proofs/statements/GridsAlike.antt`, proved: what a call on a grid returns and writes is a function of the mask's list
-- and of the numbers, and the theorem on histories has the masks' lists equal.
use Rattle.std.proofs.Common.{◌≡◌, sym, ap, ap₂, ◌∙◌, subst, ℕ, ◌*◌, Bool, List, length, take}
use Rattle.words.specs.Flags.{flags_of}
use Rattle.words.proofs.flags.Windows.{length-window}
use Rattle.masks.specs.Mask.{mask_flags}
use Rattle.masks.specs.Utils.{zeros}
use Rattle.masks.specs.declared.bitmap.Bitmap.{Bitmap}
use Rattle.masks.specs.equations.Answer.{given}
use Rattle.masks.proofs.statements.TrueCounts.{Sound}
use Rattle.masks.proofs.theorems.WrittenLaws.{take-over}
use Rattle.grids.specs.Grid.{column_zeros, row_zeros}
use Rattle.grids.specs.equations.Columns.{grid_column_bytes, grid_column_of, grid_column_zeros_of, grid_column_zeros_over}
use Rattle.grids.specs.equations.Rows.{grid_row_of, grid_row_zeros_of, grid_row_zeros_over}
use Rattle.grids.specs.equations.Transpose.{grid_transpose_bytes, grid_transpose_of}
use Rattle.grids.proofs.grid.ListingLaws.{listing-ext}
use Rattle.grids.proofs.theorems.Grids.{column-zeros-are, length-column-zeros, length-row-zeros, row-zeros-are}
use Rattle.histories.proofs.grid_rows.GridRowLaws.{column_lawful, row_lawful, transpose_lawful}
use Rattle.histories.proofs.grid_rows.GridWordLaws.{column-word, listed, row-word}
use Rattle.histories.proofs.statements.Agreement.{Agrees}
use Rattle.histories.proofs.statements.GridsAlike.{Both, CallsAlike, GridsAlike, column_counts, row_counts}
use Rattle.histories.proofs.statements.History.{list_of}
use Rattle.histories.proofs.statements.Library.{library_call}
use Rattle.histories.proofs.theorems.Histories.{means_the_same}
use Rattle.histories.specs.ReferenceList.{column_of, exchanged, row_of}
use Rattle.histories.specs.Rows.{one, with_bytes}

pub both : {A : Type 0} {meant x y : A} → x ≡ meant → y ≡ meant → Both meant x y
both p q = record { equal = p ∙ sym q; first = p; second = q }

-- ---- the counts of a list

row-counts : (l : List Bool) (rows columns : ℕ) → length l ≡ rows * columns → row_zeros l rows columns ≡ row_counts rows columns l
unfolding row_zeros
row-counts l rows columns size =
    listing-ext rows _ _ (λ r p. ap zeros (row-word l rows columns r size p)) ∙ listed rows (λ (r : ℕ). zeros (row_of columns r l))

column-counts : (l : List Bool) (rows columns : ℕ) → length l ≡ rows * columns
    → column_zeros l rows columns ≡ column_counts rows columns l
unfolding column_zeros
column-counts l rows columns size =
    listing-ext columns _ _ (λ c p. ap zeros (column-word l rows columns c size p))
    ∙ listed columns (λ (c : ℕ). zeros (column_of rows columns c l))

-- ---- one mask whose list is l

module _ (m : Bitmap) (bytes : List ℕ) (l : List Bool) (sound : Sound m bytes) (same : mask_flags m bytes ≡ l) (rows columns : ℕ) where
  row-gives : (r : ℕ) (s : Bitmap) → given s ≡ grid_row_of m bytes rows columns r → mask_flags s bytes ≡ row_of columns r l
  row-gives r s e = ((row_lawful rows columns r).made m bytes sound s (sym e)).flags ∙ ap (row_of columns r) same

  column-gives : (c : ℕ) (s : Bitmap) (out : List ℕ) → given s ≡ grid_column_of m bytes rows columns c (length out)
      → mask_flags s (grid_column_bytes m bytes rows columns c out) ≡ column_of rows columns c l
  column-gives c s out e =
      ((column_lawful rows columns c out).made (one (with_bytes m bytes)) s (sym e)).flags ∙ ap (column_of rows columns c) same

  transpose-gives : (t : Bitmap) (out : List ℕ) → given t ≡ grid_transpose_of m bytes rows columns (length out)
      → mask_flags t (grid_transpose_bytes m bytes rows columns out) ≡ exchanged rows columns l
  transpose-gives t out e =
      ((transpose_lawful rows columns out).made (one (with_bytes m bytes)) t (sym e)).flags ∙ ap (exchanged rows columns) same

  size : rows * columns ≡ m.length → length l ≡ rows * columns
  size grid = ap length (sym same) ∙ length-window (flags_of bytes) m.start m.length ∙ sym grid

  row-zeros-give : (n : ℕ) (counts : List ℕ) → given n ≡ grid_row_zeros_of m bytes rows columns (length counts)
      → (n ≡ rows) × (take n (grid_row_zeros_over m bytes rows columns counts) ≡ row_counts rows columns l)
  row-zeros-give n counts e =
      let z = row-zeros-are m bytes rows columns n counts e in (
        z.0,
        ap₂ (λ (k : ℕ) (f : List ℕ). take k f) z.0 z.1.1.1
            ∙ take-over counts (row_zeros (mask_flags m bytes) rows columns) rows (length-row-zeros m bytes rows columns) z.1.0
            ∙ ap (λ (k : List Bool). row_zeros k rows columns) same ∙ row-counts l rows columns (size z.1.1.0),
      )

  column-zeros-give : (n : ℕ) (counts : List ℕ) → given n ≡ grid_column_zeros_of m bytes rows columns (length counts)
      → (n ≡ columns) × (take n (grid_column_zeros_over m bytes rows columns counts) ≡ column_counts rows columns l)
  column-zeros-give n counts e =
      let z = column-zeros-are m bytes rows columns n counts e in (
        z.0,
        ap₂ (λ (k : ℕ) (f : List ℕ). take k f) z.0 z.1.1.1
            ∙ take-over counts (column_zeros (mask_flags m bytes) rows columns) columns (length-column-zeros m bytes rows columns) z.1.0
            ∙ ap (λ (k : List Bool). column_zeros k rows columns) same ∙ column-counts l rows columns (size z.1.1.0),
      )

-- ---- two masks that agree with the same list

calls-alike : (m m' : Bitmap) (bytes bytes' : List ℕ) (l : List Bool) → Agrees m bytes l → Agrees m' bytes' l → (rows columns : ℕ)
    → CallsAlike m bytes m' bytes' l rows columns
calls-alike m m' bytes bytes' l a b rows columns =
    record {
      row = λ r s s' e e'.
          both (row-gives m bytes l a.sound a.flags rows columns r s e) (row-gives m' bytes' l b.sound b.flags rows columns r s' e');
      column = λ c s s' out out' e e'.
          both (column-gives m bytes l a.sound a.flags rows columns c s out e)
          (column-gives m' bytes' l b.sound b.flags rows columns c s' out' e');
      transpose = λ t t' out out' e e'.
          both (transpose-gives m bytes l a.sound a.flags rows columns t out e)
          (transpose-gives m' bytes' l b.sound b.flags rows columns t' out' e');
      row_zeros = λ n n' counts counts' e e'.
          let p = row-zeros-give m bytes l a.sound a.flags rows columns n counts e in
          let q = row-zeros-give m' bytes' l b.sound b.flags rows columns n' counts' e' in (both p.0 q.0, both p.1 q.1);
      column_zeros = λ n n' counts counts' e e'.
          let p = column-zeros-give m bytes l a.sound a.flags rows columns n counts e in
          let q = column-zeros-give m' bytes' l b.sound b.flags rows columns n' counts' e' in (both p.0 q.0, both p.1 q.1);
    }

pub grids_alike : GridsAlike
grids_alike =
    record {
      alike = λ h h' m m' bytes bytes' c c' e.
          calls-alike m m' bytes bytes' (list_of library_call h) (means_the_same.agrees h m bytes c)
          (subst (Agrees m' bytes') (sym e) (means_the_same.agrees h' m' bytes' c'));
    }
