-- The theorem on counts, proved: the checks of the mask are those with its count unknown, and nothing else uses the count; a row
-- is a slice.
use Rattle.std.proofs.Common.{◌≡◌, refl, sym, ap, ◌∙◌, ℕ, ◌*◌, Bool, true, false, cond, List, [], ◌∷◌, ◌++◌, eqb, leb, ltb}
use Rattle.std.proofs.lemmas.Bool.{and_parts}
use borrow.Author.Tests.{eqb-true, ltb-true}
use Rattle.masks.specs.Checks.{Check, check, earlier, first_failed, output_checks}
use Rattle.masks.specs.Mask.{mask_checks}
use Rattle.masks.specs.declared.bitmap.Bitmap.{Bitmap}
use Rattle.masks.proofs.statements.CountsUnseen.{forgot}
use Rattle.masks.proofs.theorems.CountsUnseen.{counts_unseen as masks-unseen}
use Rattle.masks.proofs.theorems.CountsUnseenLaws.{same-checks}
use Rattle.grids.specs.Columns.{column_checks}
use Rattle.grids.specs.Grid.{counts_checks, grid_checks, is_grid}
use Rattle.grids.specs.Rows.{row_checks}
use Rattle.grids.specs.Transpose.{transpose_checks}
use Rattle.grids.proofs.rows.RowLaws.{none, same-number, there}
use Rattle.grids.proofs.statements.CountsUnseen.{CountsUnseen}

module _ (m : Bitmap) (bytes : List ℕ) (e : first_failed (mask_checks m bytes) ≡ 0) (rows columns : ℕ) where
  same-grid : grid_checks m bytes rows columns ≡ grid_checks (forgot m) bytes rows columns
  unfolding grid_checks
  same-grid = ap (λ (cs : List Check). cs ++ (check 12 (is_grid rows columns m) ∷ [])) (same-checks m bytes e)

  same-column : (i size : ℕ) → column_checks m bytes rows columns i size ≡ column_checks (forgot m) bytes rows columns i size
  unfolding column_checks
  same-column i size = ap (λ (cs : List Check). cs ++ (check 6 (ltb i columns) ∷ output_checks rows size)) same-grid

  same-transpose : (size : ℕ) → transpose_checks m bytes rows columns size ≡ transpose_checks (forgot m) bytes rows columns size
  unfolding transpose_checks
  same-transpose size = ap (λ (cs : List Check). cs ++ output_checks m.length size) same-grid

  same-counts : (n places : ℕ) → counts_checks m bytes rows columns n places ≡ counts_checks (forgot m) bytes rows columns n places
  unfolding counts_checks
  same-counts n places = ap (λ (cs : List Check). cs ++ (check 9 (leb n places) ∷ [])) same-grid

  same-row : (i : ℕ) → first_failed (row_checks m bytes rows columns i) ≡ first_failed (row_checks (forgot m) bytes rows columns i)
  same-row i = by (there m bytes rows columns i) refl
    where
      by : (t : Bool) → there m bytes rows columns i ≡ t
          → first_failed (row_checks m bytes rows columns i) ≡ first_failed (row_checks (forgot m) bytes rows columns i)
      by true h =
          let p = and_parts _ _ h in
          let grid = eqb-true (rows * columns) m.length p.0 in
          let inside = ltb-true i rows p.1 in
          sym (same-number m bytes rows columns i grid inside) ∙ (masks-unseen m bytes e).slice (i * columns) columns
          ∙ same-number (forgot m) bytes rows columns i grid inside
      by false h =
          none m bytes rows columns i h
          ∙ ap (λ (cs : List Check). earlier (first_failed cs) (cond (eqb (rows * columns) m.length) 6 12)) (same-checks m bytes e)
          ∙ sym (none (forgot m) bytes rows columns i h)

pub counts_unseen : CountsUnseen
counts_unseen m bytes e =
    record {
      row = same-row m bytes e;
      row_mask = λ columns i. refl;
      column = λ rows columns i size.
          record { answers = record { checked = same-column m bytes e rows columns i size; given = refl }; writes = refl };
      transpose = λ rows columns size.
          record { answers = record { checked = same-transpose m bytes e rows columns size; given = refl }; writes = refl };
      row_zeros = λ rows columns places. record { checked = same-counts m bytes e rows columns rows places; given = refl };
      column_zeros = λ rows columns places. record { checked = same-counts m bytes e rows columns columns places; given = refl };
    }
