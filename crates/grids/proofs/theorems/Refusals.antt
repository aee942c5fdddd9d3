-- The number of a call on a grid is 0 or one of those listed for it; that of a row is not 7, since a slice's is not.
use Rattle.std.proofs.Common.{◌≡◌, refl, sym, ap, ◌∙◌, ℕ, ◌*◌, Bool, true, false, cond, List, [], ◌∷◌, ◌++◌, eqb, arith}
use Rattle.std.proofs.lemmas.Bool.{and_parts}
use borrow.Author.Tests.{eqb-true, ltb-true}
use Rattle.masks.specs.Checks.{check, earlier, first_failed, output_checks, span_checks}
use Rattle.masks.specs.Mask.{mask_checks}
use Rattle.masks.specs.declared.bitmap.Bitmap.{Bitmap}
use Rattle.masks.proofs.checks.CheckLaws.{failed-append}
use Rattle.masks.proofs.statements.Refusals.{FailsBy, among, all_among, numbers}
use Rattle.masks.proofs.theorems.Refusals.{fails-by, refusals as masks-refusals}
use Rattle.grids.specs.Columns.{column_checks}
use Rattle.grids.specs.Grid.{counts_checks, grid_checks}
use Rattle.grids.specs.Rows.{row_checks}
use Rattle.grids.specs.Transpose.{transpose_checks}
use Rattle.grids.proofs.rows.RowLaws.{none, same-number, there}
use Rattle.grids.proofs.grid.CheckLaws.{failed-one}
use Rattle.grids.proofs.statements.Refusals.{Refusals}

-- no number of the mask's checks, nor 6 or 12, is 7
outside-seven : (m : Bitmap) (bytes : List ℕ) (g : Bool)
    → FailsBy (1 ∷ 2 ∷ 3 ∷ 6 ∷ 12 ∷ []) (mask_checks m bytes ++ (check (cond g 6 12) false ∷ []))
unfolding mask_checks span_checks numbers among all_among
outside-seven m bytes true = fails-by _ (mask_checks m bytes ++ (check 6 false ∷ [])) refl
outside-seven m bytes false = fails-by _ (mask_checks m bytes ++ (check 12 false ∷ [])) refl

not_seven : (k : ℕ) → k ≡ 7 → among k (1 ∷ 2 ∷ 3 ∷ 6 ∷ 12 ∷ []) ≡ true → ⊥
unfolding among
not_seven k e h =
    let same = sym h ∙ ap (λ (x : ℕ). among x (1 ∷ 2 ∷ 3 ∷ 6 ∷ 12 ∷ [])) e in
    let z : ◌≡◌ {A = ℕ} 0 1 = ap (λ (t : Bool). cond t 0 1) same in omega arith

seven_never : (m : Bitmap) (bytes : List ℕ) (r c i : ℕ) → first_failed (row_checks m bytes r c i) ≡ 7 → ⊥
seven_never m bytes r c i e = by (there m bytes r c i) refl
  where
    by : (t : Bool) → there m bytes r c i ≡ t → ⊥
    by true h =
        let p = and_parts _ _ h in
        masks-refusals.never_seven m bytes (i * c) c
        (same-number m bytes r c i (eqb-true (r * c) m.length p.0) (ltb-true i r p.1) ∙ e)
    by false h =
        let g = eqb (r * c) m.length in
        let cs = mask_checks m bytes ++ (check (cond g 6 12) false ∷ []) in
        let n : first_failed cs ≡ 7 =
        failed-append (mask_checks m bytes) (check (cond g 6 12) false ∷ [])
        ∙ ap (earlier (first_failed (mask_checks m bytes))) (failed-one (cond g 6 12)) ∙ sym (none m bytes r c i h) ∙ e in
        not_seven (first_failed cs) n ((outside-seven m bytes g).number (λ z. let y : ◌≡◌ {A = ℕ} 0 7 = sym z ∙ n in omega arith))

pub refusals : Refusals
unfolding
    numbers all_among among span_checks output_checks mask_checks grid_checks row_checks column_checks transpose_checks counts_checks
refusals =
    record {
      row = λ m bytes r c i. fails-by _ (row_checks m bytes r c i) refl;
      never_seven = seven_never;
      column = λ m bytes r c i size. fails-by _ (column_checks m bytes r c i size) refl;
      transpose = λ m bytes r c size. fails-by _ (transpose_checks m bytes r c size) refl;
      counts = λ m bytes r c n places. fails-by _ (counts_checks m bytes r c n places) refl;
    }
