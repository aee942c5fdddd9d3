-- The checks of a grid: what follows if they pass; and if one of those fails that come first in the order, its number is that of all.
use Rattle.std.proofs.Common.{◌≡◌, sym, ap, ◌∙◌, subst, ℕ, zero, suc, ◌+◌, ◌*◌, ◌≤◌, Bool, true, false, cond, ◌&&◌, List, [], ◌∷◌, ◌++◌}
use Rattle.std.proofs.Common.{length, arith, leb, ltb, ◌<◌}
use Rattle.std.proofs.lemmas.Bool.{and_parts}
use borrow.Author.Tests.{eqb-true, leb-true, ltb-true}
use Rattle.masks.specs.Checks.{Check, check, earlier, failure, first_failed, limit, output_checks, rank}
use Rattle.masks.specs.Frozen.{frozen_size}
use Rattle.masks.specs.Mask.{count_valid, mask_checks}
use Rattle.masks.specs.declared.bitmap.Bitmap.{Bitmap}
use Rattle.masks.proofs.checks.CheckLaws.{before, both_left, both_right, check-allowed, earlier-assoc, earlier-none, failed-append}
use Rattle.masks.proofs.checks.CheckLaws.{first-allowed, rest-allowed}
use Rattle.masks.proofs.checks.CheckLaws.{failed-ranked, first-least, span-allowed}
use Rattle.grids.specs.Grid.{counts_checks, grid_checks, is_grid}
use Rattle.grids.specs.Columns.{column_checks}
use Rattle.grids.specs.Rows.{row_checks}
use Rattle.grids.specs.Transpose.{transpose_checks}

pub failed-one : (n : ℕ) → first_failed (check n false ∷ []) ≡ n
unfolding first_failed
failed-one n = earlier-none n

-- whether all numbers of cs come before each number of ds
abbrev pub before_each : List Check → List Check → Bool
before_each cs [] = true
before_each cs (d ∷ ds) = before d.number cs && before_each cs ds

one_later : (cs : List Check) (n : ℕ) (d : Check) → before d.number cs ≡ true → n ≡ first_failed cs → (n ≡ 0 → ⊥)
    → earlier n (failure d) ≡ n
one_later cs n d b e z = by d.holds d.number b
  where
    by : (t : Bool) (k : ℕ) → before k cs ≡ true → earlier n (cond t 0 k) ≡ n
    by true k b = earlier-none n
    by false zero b = earlier-none n
    by false (suc k) b =
        first-least n (suc k) z (λ q. omega arith)
        (subst (λ (x : ℕ). rank x ≤ rank (suc k)) (sym e) (failed-ranked cs (suc k) b (λ q. z (e ∙ q))))

all_later : (cs ds : List Check) (n : ℕ) → before_each cs ds ≡ true → n ≡ first_failed cs → (n ≡ 0 → ⊥)
    → earlier n (first_failed ds) ≡ n
unfolding first_failed
all_later cs [] n b e z = earlier-none n
all_later cs (d ∷ ds) n b e z =
    let p = and_parts _ _ b in
    sym (earlier-assoc n (failure d) (first_failed ds))
    ∙ ap (λ (x : ℕ). earlier x (first_failed ds)) (one_later cs n d p.0 e z) ∙ all_later cs ds n p.1 e z

pub first_decide : (cs ds : List Check) (n : ℕ) → before_each cs ds ≡ true → n ≡ first_failed cs → (n ≡ 0 → ⊥)
    → n ≡ first_failed (cs ++ ds)
first_decide cs ds n b e z =
    sym (failed-append cs ds ∙ ap (λ (x : ℕ). earlier x (first_failed ds)) (sym e) ∙ all_later cs ds n b e z)

-- ---- what follows if the checks pass

pub record GridAllowed (m : Bitmap) (bytes : List ℕ) (rows columns : ℕ) : Type 0 where
  pub starts : m.start ≤ limit
  pub short : m.length ≤ limit
  pub inside : m.start + m.length ≤ 8 * length bytes
  pub counted : count_valid m bytes ≡ true
  pub grid : rows * columns ≡ m.length

pub grid-allowed : (m : Bitmap) (bytes : List ℕ) (rows columns : ℕ) → first_failed (grid_checks m bytes rows columns) ≡ 0
    → GridAllowed m bytes rows columns
unfolding grid_checks mask_checks
grid-allowed m bytes rows columns e =
    let mask = both_left (mask_checks m bytes) (check 12 (is_grid rows columns m) ∷ []) e in
    let span = span-allowed m.start m.length (length bytes) (both_left _ (check 3 (count_valid m bytes) ∷ []) mask) in
    record {
      starts = span.starts;
      short = span.short;
      inside = span.inside;
      counted = check-allowed 2 (count_valid m bytes) (both_right _ (check 3 (count_valid m bytes) ∷ []) mask);
      grid =
          eqb-true (rows * columns) m.length
          (check-allowed 11 (is_grid rows columns m) (both_right (mask_checks m bytes) (check 12 (is_grid rows columns m) ∷ []) e));
    }

pub counts-allowed : (m : Bitmap) (bytes : List ℕ) (rows columns n places : ℕ)
    → first_failed (counts_checks m bytes rows columns n places) ≡ 0 → GridAllowed m bytes rows columns × (n ≤ places)
unfolding counts_checks
counts-allowed m bytes rows columns n places e =
    let last = check 9 (leb n places) ∷ [] in (
      grid-allowed m bytes rows columns (both_left (grid_checks m bytes rows columns) last e),
      leb-true n places (check-allowed 8 (leb n places) (both_right (grid_checks m bytes rows columns) last e)),
    )

output-allowed : (n size : ℕ) → first_failed (output_checks n size) ≡ 0 → frozen_size n ≤ size
unfolding output_checks
output-allowed n size e = leb-true (frozen_size n) size (check-allowed 8 (leb (frozen_size n) size) e)

pub record ColumnAllowed (m : Bitmap) (bytes : List ℕ) (rows columns column size : ℕ) : Type 0 where
  pub grid : GridAllowed m bytes rows columns
  pub inside : column < columns
  pub room : frozen_size rows ≤ size

pub column-allowed : (m : Bitmap) (bytes : List ℕ) (rows columns column size : ℕ)
    → first_failed (column_checks m bytes rows columns column size) ≡ 0 → ColumnAllowed m bytes rows columns column size
unfolding column_checks
column-allowed m bytes rows columns column size e =
    let cs = check 6 (ltb column columns) ∷ output_checks rows size in
    let last = both_right (grid_checks m bytes rows columns) cs e in
    record {
      grid = grid-allowed m bytes rows columns (both_left (grid_checks m bytes rows columns) cs e);
      inside =
          ltb-true column columns
          (first-allowed 5 (ltb column columns) (output_checks rows size) last);
      room = output-allowed rows size (rest-allowed (check 6 (ltb column columns)) (output_checks rows size) last);
    }

pub transpose-allowed : (m : Bitmap) (bytes : List ℕ) (rows columns size : ℕ)
    → first_failed (transpose_checks m bytes rows columns size) ≡ 0
    → GridAllowed m bytes rows columns × (frozen_size m.length ≤ size)
unfolding transpose_checks
transpose-allowed m bytes rows columns size e =
    let last = output_checks m.length size in (
      grid-allowed m bytes rows columns (both_left (grid_checks m bytes rows columns) last e),
      output-allowed m.length size (both_right (grid_checks m bytes rows columns) last e),
    )

pub row-allowed : (m : Bitmap) (bytes : List ℕ) (rows columns row : ℕ) → first_failed (row_checks m bytes rows columns row) ≡ 0
    → GridAllowed m bytes rows columns × (row < rows)
unfolding row_checks
row-allowed m bytes rows columns row e = (
  grid-allowed m bytes rows columns (both_left (grid_checks m bytes rows columns) _ e),
  ltb-true row rows (first-allowed 5 (ltb row rows) _ (both_right (grid_checks m bytes rows columns) _ e)),
)
