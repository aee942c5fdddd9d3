-- Rows, columns, the transposed grid and the counts of a list, to one another: `ListsAgree`.
use Rattle.std.proofs.Common.{◌≡◌, sym, ap, ◌∙◌, ℕ, zero, suc, ◌*◌, ◌/◌, ◌%◌, ◌<◌, Bool, false, List, length, get_or, arith}
use Rattle.std.proofs.lemmas.List.{ext_get_or}
use Rattle.std.proofs.lemmas.Nat.{div-add-mod'}
use Rattle.std.proofs.Math.Nat.{div-lt_iff_lt-mul, mod-lt}
use Rattle.std.specs.Prelude.{sum}
use Rattle.masks.specs.Utils.{zeros}
use Rattle.grids.specs.Grid.{column_flags, column_zeros, flag_in, concatenated, row_flags, row_zeros, transposed}
use Rattle.grids.proofs.grid.ListingLaws.{at-concatenated, concatenated-ext, length-concatenated, listing-ext}
use Rattle.grids.proofs.grid.SumLaws.{sums-exchanged, zero_of, zeros-concatenated, zeros-listing}
use Rattle.grids.proofs.grid.FlagLaws.{at-row, flag-transposed, length-row}
use Rattle.grids.proofs.statements.Grids.{ListsAgree}

at-rows : (l : List Bool) (rows columns i : ℕ) → i < rows * columns
    → get_or (concatenated rows (row_flags l columns)) i false ≡ get_or l i false
at-rows l rows zero i p = absurd (omega arith)
at-rows l rows (suc m) i p =
    let whole = div-add-mod' i (suc m) in
    let small : i % suc m < suc m = mod-lt i (omega arith) in
    let inside : i / suc m < rows = (div-lt_iff_lt-mul (omega arith)).1 p in
    ap (λ (n : ℕ). get_or (concatenated rows (row_flags l (suc m))) n false) (sym whole)
    ∙ at-concatenated rows (suc m) (row_flags l (suc m)) (i / suc m) (i % suc m) (length-row l (suc m)) inside small
    ∙ at-row l (suc m) (i / suc m) (i % suc m) small ∙ ap (λ (n : ℕ). get_or l n false) whole

-- a list is its rows, one after another
rows-concatenated : (l : List Bool) (rows columns : ℕ) → length l ≡ rows * columns → concatenated rows (row_flags l columns) ≡ l
rows-concatenated l rows columns size =
    ext_get_or false (concatenated rows (row_flags l columns)) l (long ∙ sym size) (λ i p. at-rows l rows columns i (omega (arith, long)))
  where
    long : length (concatenated rows (row_flags l columns)) ≡ rows * columns
    long = length-concatenated rows columns (row_flags l columns) (length-row l columns)

row-transposed : (l : List Bool) (rows columns c : ℕ) → c < columns
    → row_flags (transposed l rows columns) rows c ≡ column_flags l rows columns c
unfolding row_flags column_flags
row-transposed l rows columns c q = listing-ext rows _ _ (λ r p. flag-transposed l rows columns r c p q)

column-transposed : (l : List Bool) (rows columns r : ℕ) → r < rows
    → column_flags (transposed l rows columns) columns rows r ≡ row_flags l columns r
unfolding row_flags column_flags
column-transposed l rows columns r p = listing-ext columns _ _ (λ c q. flag-transposed l rows columns r c p q)

twice-transposed : (l : List Bool) (rows columns : ℕ) → length l ≡ rows * columns
    → transposed (transposed l rows columns) columns rows ≡ l
unfolding transposed
twice-transposed l rows columns size =
    concatenated-ext rows _ (row_flags l columns) (λ r p. column-transposed l rows columns r p) ∙ rows-concatenated l rows columns size

row-sum : (l : List Bool) (rows columns : ℕ) → length l ≡ rows * columns → sum (row_zeros l rows columns) ≡ zeros l
unfolding row_zeros
row-sum l rows columns size = zeros-concatenated rows (row_flags l columns) ∙ ap zeros (rows-concatenated l rows columns size)

same-sum : (l : List Bool) (rows columns : ℕ) → sum (column_zeros l rows columns) ≡ sum (row_zeros l rows columns)
unfolding column_zeros row_zeros row_flags column_flags
same-sum l rows columns =
    ap sum (listing-ext columns _ _ (λ c p. zeros-listing rows (λ (r : ℕ). flag_in l columns r c)))
    ∙ sums-exchanged columns rows (λ (c r : ℕ). zero_of (flag_in l columns r c))
    ∙ ap sum (listing-ext rows _ _ (λ r p. sym (zeros-listing columns (λ (c : ℕ). flag_in l columns r c))))

pub lists_agree : (l : List Bool) (rows columns : ℕ) → length l ≡ rows * columns → ListsAgree l rows columns
lists_agree l rows columns size =
    record {
      twice = twice-transposed l rows columns size;
      rows_are_columns = row-transposed l rows columns;
      row_sum = row-sum l rows columns size;
      column_sum = same-sum l rows columns ∙ row-sum l rows columns size;
    }
