-- Refusals: with which numbers each call on a grid may refuse, as in `Refusals` of masks. That it refuses by the number of these checks is
-- its clause `refused`; what a refusal leaves as it was, its clauses `unchanged` and `state`.
use Rattle.std.specs.Prelude.{ℕ, ◌≡◌, List, [], ◌∷◌}
use Rattle.masks.specs.Checks.{first_failed}
use Rattle.masks.specs.declared.bitmap.Bitmap.{Bitmap}
use Rattle.masks.proofs.statements.Refusals.{FailsBy}
use Rattle.grids.specs.Columns.{column_checks}
use Rattle.grids.specs.Grid.{counts_checks}
use Rattle.grids.specs.Rows.{row_checks}
use Rattle.grids.specs.Transpose.{transpose_checks}

-- ---- the table

pub data Family : Type 0 where
  rows : Family
  columns : Family
  grids : Family

abbrev pub may_give : Family → List ℕ
-- `grid_row`; its 7 never comes out: `never_seven`
may_give rows = 1 ∷ 2 ∷ 3 ∷ 12 ∷ 6 ∷ 7 ∷ []
-- `grid_column`
may_give columns = 1 ∷ 2 ∷ 3 ∷ 12 ∷ 6 ∷ 9 ∷ []
-- `grid_transpose`, `grid_row_zeros`, `grid_column_zeros`
may_give grids = 1 ∷ 2 ∷ 3 ∷ 12 ∷ 9 ∷ []

-- ---- the statement

pub record Refusals : Type 0 where
  pub row : (m : Bitmap) (bytes : List ℕ) (r c i : ℕ) → FailsBy (may_give rows) (row_checks m bytes r c i)
  pub never_seven : (m : Bitmap) (bytes : List ℕ) (r c i : ℕ) → first_failed (row_checks m bytes r c i) ≡ 7 → ⊥
  pub column : (m : Bitmap) (bytes : List ℕ) (r c i size : ℕ) → FailsBy (may_give columns) (column_checks m bytes r c i size)
  pub transpose : (m : Bitmap) (bytes : List ℕ) (r c size : ℕ) → FailsBy (may_give grids) (transpose_checks m bytes r c size)
  pub counts : (m : Bitmap) (bytes : List ℕ) (r c n places : ℕ) → FailsBy (may_give grids) (counts_checks m bytes r c n places)
