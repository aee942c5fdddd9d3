-- A row of the grid is refused as its slice is (`same-number`); else the number is that of the mask, 6 or 12 (`mask-first`, `mask-passed`).
use Rattle.std.proofs.Common.{◌≡◌, refl, sym, ◌∙◌, ap, Bool, true, false, cond, ◌&&◌, ◌*◌, eqb}
use borrow.Author.Tests.{eqb-true, le-ltb}
use Rattle.masks.proofs.refusal.RefusalLaws.{number-ne0}
use Rattle.grids.proofs.rows.RowLaws.{mask-first, mask-passed, same-number, there}
use Rattle.grids.proofs.rows.grid_row.Goals as goal
use Rattle.grids.proofs.rows.grid_row.Goals.{else-grid-via-then-grid+else-row-rows, else-grid-via-else-grid}

and-none : (t : Bool) → (t && false) ≡ false
and-none true = refl
and-none false = refl

pub returns-then-row-rows-clause-refused : goal.returns-then-row-rows-clause-refused
returns-then-row-rows-clause-refused c =
    c.slice.ensures.refused
    ∙ same-number _ _ _ _ _ (eqb-true _ _ (sym c.is_grid-grid.ensures ∙ c.if-grid.true)) c.if-row-rows.true

pub returns-in-Err-clause-refused : goal.returns-in-Err-clause-refused
returns-in-Err-clause-refused c =
    let none : there c.args.mask c.args.bytes.now c.args.rows c.args.columns c.args.row ≡ false = elim c.else-grid.branch [
      | else-grid-via-then-grid+else-row-rows w ↦ rw (le-ltb _ _ w.if-row-rows.false) (and-none _)
      | else-grid-via-else-grid w ↦ rw (sym c.is_grid-grid.ensures ∙ w.if-grid.false) refl
    ] in
    c.in-Err.ensures.refused ∙ mask-first _ _ _ _ _ none (λ z. number-ne0 _ (c.in-Err.ensures.refused ∙ z))

pub returns-in-Ok-clause-refused : goal.returns-in-Ok-clause-refused
returns-in-Ok-clause-refused c =
    let none : there c.args.mask c.args.bytes.now c.args.rows c.args.columns c.args.row ≡ false = elim c.else-grid.branch [
      | else-grid-via-then-grid+else-row-rows w ↦ rw (le-ltb _ _ w.if-row-rows.false) (and-none _)
      | else-grid-via-else-grid w ↦ rw (sym c.is_grid-grid.ensures ∙ w.if-grid.false) refl
    ] in
    ap (λ (g : Bool). cond g 6 12) (sym c.if-grid-2.true ∙ c.is_grid-grid.ensures)
    ∙ mask-passed _ _ _ _ _ none (sym c.in-Ok.ensures.refused)

pub returns-in-Ok-2-clause-refused : goal.returns-in-Ok-2-clause-refused
returns-in-Ok-2-clause-refused c =
    let no : eqb (c.args.rows * c.args.columns) c.args.mask.length ≡ false = sym c.is_grid-grid.ensures ∙ c.if-grid-2.false in
    ap (λ (g : Bool). cond g 6 12) (sym no) ∙ mask-passed _ _ _ _ _ (rw no refl) (sym c.in-Ok.ensures.refused)
