-- The statements of `proofs/statements/Grids.antt`, proved: by the flags of each call, one by one, and the theorem on lists.
use Rattle.std.proofs.Common.{◌≡◌, refl, sym, ap, ap₂, ◌∙◌, ℕ, ◌+◌, ◌*◌, ◌<◌, ◌≤◌, Bool, false, List, length, take, get_or, arith}
use Rattle.std.specs.Prelude.{sum}
use Rattle.words.specs.Flags.{flags_of, over, window}
use Rattle.words.proofs.flags.Windows.{length-window, length_over}
use Rattle.words.proofs.theorems.Plain.{at-after, at-over}
use Rattle.masks.specs.Frozen.{frozen, frozen_size, with_frozen}
use Rattle.masks.specs.Mask.{mask_flags, sliced_mask, written_mask}
use Rattle.masks.specs.Utils.{zeros}
use Rattle.masks.specs.declared.bitmap.Bitmap.{Bitmap}
use Rattle.masks.specs.equations.Answer.{decided, given}
use Rattle.masks.specs.equations.Mask.{slice_of}
use Rattle.masks.proofs.checks.CheckLaws.{is-given}
use Rattle.masks.proofs.theorems.FrozenPlain.{frozen-plain}
use Rattle.masks.proofs.theorems.WrittenLaws.{accepted, as-before, as-long, frozen-window, new-if, old-if, take-over}
use Rattle.grids.specs.Columns.{column_checks}
use Rattle.grids.specs.Grid.{column_flags, column_zeros, counts_checks, listing, row_flags, row_zeros, transposed}
use Rattle.grids.specs.Rows.{row_checks}
use Rattle.grids.specs.Transpose.{transpose_checks}
use Rattle.grids.specs.equations.Columns.{grid_column_bytes, grid_column_of, grid_column_zeros_of, grid_column_zeros_over}
use Rattle.grids.specs.equations.Rows.{grid_row_of, grid_row_zeros_of, grid_row_zeros_over}
use Rattle.grids.specs.equations.Transpose.{grid_transpose_bytes, grid_transpose_of}
use Rattle.grids.proofs.grid.CheckLaws.{column-allowed, counts-allowed, row-allowed, transpose-allowed}
use Rattle.grids.proofs.grid.FlagLaws.{at-column, at-row, flag-transposed, length-column, length-transposed}
use Rattle.grids.proofs.grid.ListingLaws.{at-listing, length-listing}
use Rattle.grids.proofs.rows.RowLaws.{same-number}
use Rattle.grids.proofs.rows.RowZeros.{row-stretch}
use Rattle.grids.proofs.statements.Grids.{GridsAgree, GridsKept, ListsAgree, flag_of}
use Rattle.grids.proofs.theorems.GridLists.{lists_agree}
use Rattle.grids.proofs.theorems.WrittenAccepted.{back-accepted, row-accepted}

-- ---- what each accepted call returns and writes, as a list

module _ (m : Bitmap) (bytes : List ℕ) (rows columns : ℕ) where
  abbrev l : List Bool
  l = mask_flags m bytes

  row-is : (r : ℕ) (s : Bitmap) → given s ≡ grid_row_of m bytes rows columns r
      → (s.length ≡ columns) × (mask_flags s bytes ≡ row_flags l columns r)
  unfolding grid_row_of
  row-is r s e =
      let a = accepted (row_checks m bytes rows columns r) m (sliced_mask m bytes (r * columns) columns) s e in
      let ok = row-allowed m bytes rows columns r a.0 in (
        ap (λ (x : Bitmap). x.length) a.1,
        ap (λ (x : Bitmap). mask_flags x bytes) a.1 ∙ sym (row-stretch (flags_of bytes) m.start rows columns r ok.1)
            ∙ ap (λ (n : ℕ). row_flags (window (flags_of bytes) m.start n) columns r) ok.0.grid,
      )

  column-is : (c : ℕ) (s : Bitmap) (out : List ℕ) → given s ≡ grid_column_of m bytes rows columns c (length out)
      → mask_flags s (grid_column_bytes m bytes rows columns c out) ≡ column_flags l rows columns c
  unfolding grid_column_of grid_column_bytes
  column-is c s out e =
      let cs = column_checks m bytes rows columns c (length out) in
      let a = accepted cs tt (written_mask m rows) s e in
      let ok = column-allowed m bytes rows columns c (length out) a.0 in
      ap₂ (λ (x : Bitmap) (b : List ℕ). mask_flags x b) a.1
      (new-if cs tt (written_mask m rows) s (with_frozen out (column_flags l rows columns c)) out e)
      ∙ frozen-window out (column_flags l rows columns c) rows (length-column l rows columns c) ok.room

  transposed-is : (t : Bitmap) (out : List ℕ) → given t ≡ grid_transpose_of m bytes rows columns (length out)
      → (t.length ≡ m.length) × ((rows * columns ≡ m.length)
      × (mask_flags t (grid_transpose_bytes m bytes rows columns out) ≡ transposed l rows columns))
  unfolding grid_transpose_of grid_transpose_bytes
  transposed-is t out e =
      let cs = transpose_checks m bytes rows columns (length out) in
      let a = accepted cs tt (written_mask m m.length) t e in
      let ok = transpose-allowed m bytes rows columns (length out) a.0 in (
        ap (λ (x : Bitmap). x.length) a.1,
        (
          ok.0.grid,
          ap₂ (λ (x : Bitmap) (b : List ℕ). mask_flags x b) a.1
              (new-if cs tt (written_mask m m.length) t (with_frozen out (transposed l rows columns)) out e)
              ∙ frozen-window out (transposed l rows columns) m.length
              (omega (arith, length-transposed l rows columns, ok.0.grid)) ok.1,
        ),
      )

  pub row-zeros-are : (n : ℕ) (counts : List ℕ) → given n ≡ grid_row_zeros_of m bytes rows columns (length counts)
      → (n ≡ rows) × ((rows ≤ length counts) × ((rows * columns ≡ m.length)
      × (grid_row_zeros_over m bytes rows columns counts ≡ over counts (row_zeros l rows columns))))
  unfolding grid_row_zeros_of grid_row_zeros_over
  row-zeros-are n counts e =
      let cs = counts_checks m bytes rows columns rows (length counts) in
      let a = accepted cs tt rows n e in
      let ok = counts-allowed m bytes rows columns rows (length counts) a.0 in
      (a.1, (ok.1, (ok.0.grid, new-if cs tt rows n (over counts (row_zeros l rows columns)) counts e)))

  pub column-zeros-are : (n : ℕ) (counts : List ℕ) → given n ≡ grid_column_zeros_of m bytes rows columns (length counts)
      → (n ≡ columns) × ((columns ≤ length counts) × ((rows * columns ≡ m.length)
      × (grid_column_zeros_over m bytes rows columns counts ≡ over counts (column_zeros l rows columns))))
  unfolding grid_column_zeros_of grid_column_zeros_over
  column-zeros-are n counts e =
      let cs = counts_checks m bytes rows columns columns (length counts) in
      let a = accepted cs tt columns n e in
      let ok = counts-allowed m bytes rows columns columns (length counts) a.0 in
      (a.1, (ok.1, (ok.0.grid, new-if cs tt columns n (over counts (column_zeros l rows columns)) counts e)))

  -- ---- the mask over the transposed grid is accepted

  transposed-back : (t : Bitmap) (out : List ℕ) (size : ℕ) → given t ≡ grid_transpose_of m bytes rows columns (length out)
      → frozen_size m.length ≤ size
      → given t ≡ grid_transpose_of t (grid_transpose_bytes m bytes rows columns out) columns rows size
  unfolding grid_transpose_of grid_transpose_bytes
  transposed-back t out size e room =
      let cs = transpose_checks m bytes rows columns (length out) in
      let w = written_mask m m.length in
      let a = accepted cs tt w t e in
      rw (a.1, new-if cs tt w t (with_frozen out (transposed l rows columns)) out e)
      (is-given 0 _ tt w (back-accepted m bytes out rows columns a.0 size room) refl)

  transposed-row : (c : ℕ) (t : Bitmap) (out : List ℕ) → given t ≡ grid_transpose_of m bytes rows columns (length out) → c < columns
      → (s : Bitmap) × (given s ≡ grid_row_of t (grid_transpose_bytes m bytes rows columns out) columns rows c)
  unfolding grid_transpose_of grid_transpose_bytes grid_row_of
  transposed-row c t out e inside =
      let cs = transpose_checks m bytes rows columns (length out) in
      let w = written_mask m m.length in
      let a = accepted cs tt w t e in
      let new = with_frozen out (transposed l rows columns) in (
        sliced_mask w new (c * rows) rows,
        rw (a.1, new-if cs tt w t new out e)
            (is-given 0 _ w (sliced_mask w new (c * rows) rows) (row-accepted m bytes out rows columns a.0 c inside) refl),
      )

  -- ---- sizes

  column-inside : (c : ℕ) (s : Bitmap) (size : ℕ) → given s ≡ grid_column_of m bytes rows columns c size → c < columns
  unfolding grid_column_of
  column-inside c s size e =
      let a = accepted (column_checks m bytes rows columns c size) tt (written_mask m rows) s e in
      (column-allowed m bytes rows columns c size a.0).inside

  pub column-long : (c : ℕ) (s : Bitmap) (size : ℕ) → given s ≡ grid_column_of m bytes rows columns c size → s.length ≡ rows
  unfolding grid_column_of
  column-long c s size e =
      ap (λ (x : Bitmap). x.length) (accepted (column_checks m bytes rows columns c size) tt (written_mask m rows) s e).1

  transposed-long : (t : Bitmap) (size : ℕ) → given t ≡ grid_transpose_of m bytes rows columns size → t.length ≡ m.length
  unfolding grid_transpose_of
  transposed-long t size e =
      ap (λ (x : Bitmap). x.length) (accepted (transpose_checks m bytes rows columns size) tt (written_mask m m.length) t e).1

  -- ---- the counts

  pub length-row-zeros : length (row_zeros l rows columns) ≡ rows
  unfolding row_zeros
  length-row-zeros = length-listing rows (λ r. zeros (row_flags l columns r))

  pub length-column-zeros : length (column_zeros l rows columns) ≡ columns
  unfolding column_zeros
  length-column-zeros = length-listing columns (λ c. zeros (column_flags l rows columns c))

  at-row-zeros : (r : ℕ) → r < rows → get_or (row_zeros l rows columns) r 0 ≡ zeros (listing columns (λ c. flag_of m bytes columns r c))
  unfolding row_zeros row_flags
  at-row-zeros r p = at-listing rows (λ r. zeros (row_flags l columns r)) r 0 p

  at-column-zeros : (c : ℕ) → c < columns
      → get_or (column_zeros l rows columns) c 0 ≡ zeros (listing rows (λ r. flag_of m bytes columns r c))
  unfolding column_zeros column_flags
  at-column-zeros c p = at-listing columns (λ c. zeros (column_flags l rows columns c)) c 0 p

  agree-on : rows * columns ≡ m.length → ListsAgree l rows columns
  agree-on e = lists_agree l rows columns (length-window (flags_of bytes) m.start m.length ∙ sym e)

past-frozen : (out : List ℕ) (f : List Bool) (n k : ℕ) → length f ≡ n → frozen_size n ≤ k → get_or (with_frozen out f) k 0 ≡ get_or out k 0
past-frozen out f n k e p = at-after out (frozen f) k 0 (omega (arith, frozen-plain.size f, ap frozen_size e))

-- ---- the statements

pub grids_agree : (m : Bitmap) (bytes : List ℕ) (rows columns : ℕ) → GridsAgree m bytes rows columns
unfolding grid_row_of slice_of
grids_agree m bytes rows columns =
    record {
      in_row = λ r c s e p.
          ap (λ (f : List Bool). get_or f c false) (row-is m bytes rows columns r s e).1 ∙ at-row its columns r c p;
      in_column = λ r c s out e p.
          ap (λ (f : List Bool). get_or f r false) (column-is m bytes rows columns c s out e) ∙ at-column its rows columns c r p;
      in_transposed = λ r c t out e p q.
          ap (λ (f : List Bool). get_or f (c * rows + r) false) (transposed-is m bytes rows columns t out e).1.1
          ∙ flag-transposed its rows columns r c p q;
      row_size = λ r s e. (row-is m bytes rows columns r s e).0;
      column_size = λ c size s e. column-long m bytes rows columns c s size e;
      transposed_size = λ size t e. transposed-long m bytes rows columns t size e;
      row_count = λ r n counts e p.
          let z = row-zeros-are m bytes rows columns n counts e in
          ap (λ (f : List ℕ). get_or f r 0) z.1.1.1
          ∙ at-over counts (row_zeros its rows columns) r 0 (omega (arith, length-row-zeros m bytes rows columns)) (omega (arith, z.1.0))
          ∙ at-row-zeros m bytes rows columns r p;
      column_count = λ c n counts e p.
          let z = column-zeros-are m bytes rows columns n counts e in
          ap (λ (f : List ℕ). get_or f c 0) z.1.1.1
          ∙ at-over counts (column_zeros its rows columns) c 0 (omega (arith, length-column-zeros m bytes rows columns))
          (omega (arith, z.1.0))
          ∙ at-column-zeros m bytes rows columns c p;
      twice = λ t u out back e f.
          let a = transposed-is m bytes rows columns t out e in
          let b = transposed-is t (grid_transpose_bytes m bytes rows columns out) columns rows u back f in
          b.1.1 ∙ ap (λ (k : List Bool). transposed k columns rows) a.1.1 ∙ (agree-on m bytes rows columns a.1.0).twice;
      rows_are_columns = λ c t s d out own e f g.
          let a = transposed-is m bytes rows columns t out e in
          let b = row-is t (grid_transpose_bytes m bytes rows columns out) columns rows c s f in
          b.1 ∙ ap (λ (k : List Bool). row_flags k rows c) a.1.1
          ∙ (agree-on m bytes rows columns a.1.0).rows_are_columns c (column-inside m bytes rows columns c d (length own) g)
          ∙ sym (column-is m bytes rows columns c d own g);
      as_slice = λ r grid inside.
          ap (λ (n : ℕ). decided n m (sliced_mask m bytes (r * columns) columns))
          (sym (same-number m bytes rows columns r grid inside));
      back = λ t out size e room. transposed-back m bytes rows columns t out size e room;
      rows_accepted = λ c t out e inside. transposed-row m bytes rows columns c t out e inside;
      row_sum = λ n counts e.
          let z = row-zeros-are m bytes rows columns n counts e in (
            z.0,
            ap₂ (λ (k : ℕ) (f : List ℕ). sum (take k f)) z.0 z.1.1.1
                ∙ ap sum (take-over counts (row_zeros its rows columns) rows (length-row-zeros m bytes rows columns) z.1.0)
                ∙ (agree-on m bytes rows columns z.1.1.0).row_sum,
          );
      column_sum = λ n counts e.
          let z = column-zeros-are m bytes rows columns n counts e in (
            z.0,
            ap₂ (λ (k : ℕ) (f : List ℕ). sum (take k f)) z.0 z.1.1.1
                ∙ ap sum (take-over counts (column_zeros its rows columns) columns (length-column-zeros m bytes rows columns) z.1.0)
                ∙ (agree-on m bytes rows columns z.1.1.0).column_sum,
          );
    }
  where
    its : List Bool
    its = mask_flags m bytes

pub grids_kept : (m : Bitmap) (bytes : List ℕ) (rows columns : ℕ) → GridsKept m bytes rows columns
unfolding grid_row_zeros_of grid_row_zeros_over grid_column_zeros_of grid_column_zeros_over grid_column_of grid_column_bytes
    grid_transpose_of grid_transpose_bytes
grids_kept m bytes rows columns =
    record {
      row_long = λ counts. as-long _ _ counts (length_over counts (row_zeros (mask_flags m bytes) rows columns));
      column_long = λ counts. as-long _ _ counts (length_over counts (column_zeros (mask_flags m bytes) rows columns));
      column_bytes_long = λ c out. as-long _ _ out (length_over out (frozen (column_flags (mask_flags m bytes) rows columns c)));
      transposed_long = λ out. as-long _ _ out (length_over out (frozen (transposed (mask_flags m bytes) rows columns)));
      row_places = λ counts k p.
          as-before _ k (over counts (row_zeros (mask_flags m bytes) rows columns)) counts 0
          (λ z. at-after counts (row_zeros (mask_flags m bytes) rows columns) k 0 (omega (arith, length-row-zeros m bytes rows columns)));
      column_places = λ counts k p.
          as-before _ k (over counts (column_zeros (mask_flags m bytes) rows columns)) counts 0
          (λ z. at-after counts (column_zeros (mask_flags m bytes) rows columns) k 0
          (omega (arith, length-column-zeros m bytes rows columns)));
      column_bytes = λ c out k p.
          let f = column_flags (mask_flags m bytes) rows columns c in
          as-before _ k (with_frozen out f) out 0 (λ z. past-frozen out f rows k (length-column (mask_flags m bytes) rows columns c) p);
      transposed_bytes = λ out k p.
          let f = transposed (mask_flags m bytes) rows columns in
          as-before _ k (with_frozen out f) out 0 (λ z.
          let ok = transpose-allowed m bytes rows columns (length out) z in
          past-frozen out f m.length k (omega (arith, length-transposed (mask_flags m bytes) rows columns, ok.0.grid)) p);
      row_zeros_refused = λ number counts e.
          old-if (counts_checks m bytes rows columns rows (length counts)) tt rows number tt
          (over counts (row_zeros (mask_flags m bytes) rows columns)) counts e;
      column_zeros_refused = λ number counts e.
          old-if (counts_checks m bytes rows columns columns (length counts)) tt columns number tt
          (over counts (column_zeros (mask_flags m bytes) rows columns)) counts e;
      column_refused = λ c number out e.
          old-if (column_checks m bytes rows columns c (length out)) tt (written_mask m rows) number tt
          (with_frozen out (column_flags (mask_flags m bytes) rows columns c)) out e;
      transpose_refused = λ number out e.
          old-if (transpose_checks m bytes rows columns (length out)) tt (written_mask m m.length) number tt
          (with_frozen out (transposed (mask_flags m bytes) rows columns)) out e;
    }
