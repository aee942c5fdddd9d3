-- The mask over a transposed grid is accepted: with its bytes its checks pass, as one of columns * rows flags and for each of its rows.
use Rattle.std.proofs.Common.{◌≡◌, refl, ◌∙◌, ℕ, ◌+◌, ◌*◌, ◌<◌, ◌≤◌, Bool, true, false, cond, List, [], ◌∷◌, length, arith, eqb}
use Rattle.std.proofs.Math.Nat.{mul_comm, mul-le-mul_left}
use borrow.Author.Tests.{eq-eqb, le-leb, lt-ltb}
use Rattle.words.specs.Flags.{flags_of}
use Rattle.words.proofs.flags.Windows.{length-window, length_over}
use Rattle.std.proofs.Common.{Some, None}
use Rattle.masks.specs.Checks.{check, earlier, first_failed, limit, output_checks}
use Rattle.masks.specs.Frozen.{frozen, frozen_size, with_frozen}
use Rattle.masks.specs.Mask.{cut_zeros, mask_checks, mask_flags, recount_valid, recounts, uncounted, written_mask}
use Rattle.masks.specs.declared.bitmap.Bitmap.{Bitmap}
use Rattle.masks.proofs.checks.CheckLaws.{passed-before}
use Rattle.masks.proofs.theorems.Accepted.{mask-accepted}
use Rattle.masks.proofs.theorems.SliceTruth.{none_true}
use Rattle.grids.specs.Grid.{grid_checks, is_grid, transposed}
use Rattle.grids.specs.Rows.{row_checks}
use Rattle.grids.specs.Transpose.{transpose_checks}
use Rattle.grids.proofs.grid.CheckLaws.{transpose-allowed}

-- a count of flags that were not counted is not recounted
none-recounted : (n old piece cut : ℕ) → recount_valid old piece cut (uncounted n) ≡ true
unfolding recounts
none-recounted n old piece cut = by (eqb n 0)
  where
    by : (t : Bool) → recount_valid old piece cut (cond t (Some 0) None) ≡ true
    by true = refl
    by false = refl

module _ (m : Bitmap) (bytes out : List ℕ) (rows columns : ℕ)
    (e : first_failed (transpose_checks m bytes rows columns (length out)) ≡ 0) where
  abbrev t : Bitmap
  t = written_mask m m.length

  abbrev new : List ℕ
  new = with_frozen out (transposed (mask_flags m bytes) rows columns)

  grid : 0 ≡ first_failed (grid_checks t new columns rows)
  unfolding grid_checks first_failed earlier
  grid =
      let ok = transpose-allowed m bytes rows columns (length out) e in
      let long = length_over out (frozen (transposed (mask_flags m bytes) rows columns)) in
      passed-before (mask_checks t new) (check 12 (is_grid columns rows t) ∷ []) 0 0
      (mask-accepted t new (omega arith) ok.0.short (omega (arith, long, ok.1))
      (none_true m.length (mask_flags t new) (length-window (flags_of new) 0 m.length))) refl
      (rw (eq-eqb (columns * rows) m.length (mul_comm columns rows ∙ ok.0.grid)) refl)

  pub back-accepted : (size : ℕ) → frozen_size m.length ≤ size → 0 ≡ first_failed (transpose_checks t new columns rows size)
  unfolding transpose_checks output_checks first_failed earlier
  back-accepted size room =
      passed-before (grid_checks t new columns rows) (output_checks m.length size) 0 0 grid refl
      (rw (le-leb (frozen_size m.length) size room) refl)

  pub row-accepted : (c : ℕ) → c < columns → 0 ≡ first_failed (row_checks t new columns rows c)
  unfolding row_checks first_failed earlier
  row-accepted c inside =
      let ok = transpose-allowed m bytes rows columns (length out) e in
      let far = mul-le-mul_left rows inside in
      let near : 0 + c * rows ≤ limit = omega (arith, far, mul_comm columns rows, ok.0.grid, ok.0.short) in
      passed-before (grid_checks t new columns rows) _ 0 0 grid refl
      (rw (
        lt-ltb c columns inside,
        eq-eqb (columns * rows) m.length (mul_comm columns rows ∙ ok.0.grid),
        le-leb (0 + c * rows) limit near,
        none-recounted m.length m.length rows (cut_zeros t new (c * rows) rows),
      ) refl)
