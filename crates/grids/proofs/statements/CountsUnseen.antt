-- The theorem on counts for the calls on a grid: if the checks of the mask pass, their checks and what they return and write are those for
-- the same mask with its count unknown, except for the count in the record of a row. That they answer by these is said by their clauses.
use Rattle.std.specs.Prelude.{ℕ, ◌*◌, ◌≡◌, List}
use Rattle.masks.specs.Checks.{first_failed}
use Rattle.masks.specs.Mask.{mask_checks, mask_flags, sliced_mask, written_mask}
use Rattle.masks.specs.declared.bitmap.Bitmap.{Bitmap}
use Rattle.masks.proofs.statements.CountsUnseen.{Unseen, UnseenBoth, UnseenCall, forgot}
use Rattle.grids.specs.Columns.{column_checks}
use Rattle.grids.specs.Grid.{column_flags, column_zeros, counts_checks, row_zeros, transposed}
use Rattle.grids.specs.Rows.{row_checks}
use Rattle.grids.specs.Transpose.{transpose_checks}

pub record CountUnseen (m : Bitmap) (bytes : List ℕ) : Type 0 where
  -- `grid_row`
  pub row : (rows columns i : ℕ) → Unseen m (λ x. first_failed (row_checks x bytes rows columns i))
  pub row_mask : (columns i : ℕ) → Unseen m (λ x. forgot (sliced_mask x bytes (i * columns) columns))
  -- `grid_column`
  pub column : (rows columns i size : ℕ)
      → UnseenBoth m (λ x. column_checks x bytes rows columns i size) (λ x. written_mask x rows)
      (λ x. column_flags (mask_flags x bytes) rows columns i)
  -- `grid_transpose`
  pub transpose : (rows columns size : ℕ)
      → UnseenBoth m (λ x. transpose_checks x bytes rows columns size) (λ x. written_mask x x.length)
      (λ x. transposed (mask_flags x bytes) rows columns)
  -- `grid_row_zeros`
  pub row_zeros : (rows columns places : ℕ)
      → UnseenCall m (λ x. counts_checks x bytes rows columns rows places) (λ x. row_zeros (mask_flags x bytes) rows columns)
  -- `grid_column_zeros`
  pub column_zeros : (rows columns places : ℕ)
      → UnseenCall m (λ x. counts_checks x bytes rows columns columns places) (λ x. column_zeros (mask_flags x bytes) rows columns)

abbrev pub CountsUnseen : Type 0
CountsUnseen = (m : Bitmap) (bytes : List ℕ) → first_failed (mask_checks m bytes) ≡ 0 → CountUnseen m bytes
