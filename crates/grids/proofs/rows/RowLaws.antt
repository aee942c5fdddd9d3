-- The number of a row: that of its slice if there is such a row, and that of the mask, 12 and 6 if there is none.
use Rattle.std.proofs.Common.{◌≡◌, refl, sym, ap, ◌∙◌, ℕ, suc, ◌+◌, ◌*◌, ◌<◌, ◌≤◌, ◌⊎◌, inl, inr, Bool, true, false, cond, not, ◌&&◌}
use Rattle.std.proofs.Common.{◌||◌, List, [], ◌∷◌, ◌++◌, length, arith, eqb, leb, ltb}
use Rattle.std.proofs.lemmas.Bool.{cases_lt}
use Rattle.std.proofs.Math.Nat.{mul-le-mul_left}
use borrow.Author.Tests.{eq-eqb, le-leb, lt-leb, lt-ltb}
use Rattle.masks.specs.Checks.{Check, check, earlier, failure, first_failed, limit, place_in, rank, span_checks, within_limit}
use Rattle.masks.specs.Mask.{count_valid, cut_zeros, mask_checks, piece_checks, recount_valid, slice_checks}
use Rattle.masks.specs.declared.bitmap.Bitmap.{Bitmap}
use Rattle.masks.proofs.checks.CheckLaws.{before, earlier-assoc, failed-append, failed-ranked, first-least}
use Rattle.masks.proofs.checks.OrderLaws.{led}
use Rattle.grids.specs.Grid.{grid_checks}
use Rattle.grids.specs.Rows.{row_checks}

-- the checks of a row without those of the mask, by what each of them says
put : (g i s r : Bool)
    → earlier (first_failed (check 12 g ∷ []))
    (first_failed (check 6 i ∷ check 1 (not (g && i) || s) ∷ check 7 (not (g && i) || r) ∷ []))
    ≡ cond g (cond i (first_failed (check 1 s ∷ check 7 r ∷ [])) 6) 12
unfolding first_failed earlier rank place_in
put true true s r = refl
put true false s r = refl
put false true s r = refl
put false false s r = refl

row_number : (cs : List Check) (g i s r : Bool)
    → first_failed ((cs ++ (check 12 g ∷ [])) ++ (check 6 i ∷ check 1 (not (g && i) || s) ∷ check 7 (not (g && i) || r) ∷ []))
    ≡ earlier (first_failed cs) (cond g (cond i (first_failed (check 1 s ∷ check 7 r ∷ [])) 6) 12)
row_number cs g i s r =
    let rest = check 6 i ∷ check 1 (not (g && i) || s) ∷ check 7 (not (g && i) || r) ∷ [] in
    failed-append (cs ++ (check 12 g ∷ [])) rest
    ∙ ap (λ (x : ℕ). earlier x (first_failed rest)) (failed-append cs (check 12 g ∷ []))
    ∙ earlier-assoc (first_failed cs) (first_failed (check 12 g ∷ [])) (first_failed rest)
    ∙ ap (earlier (first_failed cs)) (put g i s r)

module _ (m : Bitmap) (bytes : List ℕ) (rows columns row : ℕ) where
  abbrev off : ℕ
  off = row * columns

  abbrev masked : ℕ
  masked = first_failed (mask_checks m bytes)

  abbrev starts : Check
  starts = check 1 (leb (m.start + off) limit)

  abbrev recounted : Check
  recounted = check 7 (recount_valid m.length columns (cut_zeros m bytes off columns) m.unset)

  abbrev both : ℕ
  both = first_failed (starts ∷ recounted ∷ [])

  by-row : first_failed (row_checks m bytes rows columns row)
      ≡ earlier masked (cond (eqb (rows * columns) m.length) (cond (ltb row rows) both 6) 12)
  unfolding row_checks grid_checks
  by-row =
      row_number (mask_checks m bytes) (eqb (rows * columns) m.length) (ltb row rows) (leb (m.start + off) limit)
      (recount_valid m.length columns (cut_zeros m bytes off columns) m.unset)

  -- ---- there is such a row: the number is that of the slice

  -- a mask longer than the limit is refused with 1
  too_long : limit < m.length → masked ≡ 1
  unfolding mask_checks span_checks first_failed earlier rank place_in
  too_long h =
      let cs = check 2 (leb (m.start + m.length) (8 * length bytes)) ∷ check 3 (count_valid m bytes) ∷ [] in
      rw (lt-leb m.length limit h) (ap (earlier (failure (within_limit m.start))) (led 0 cs refl) ∙ go (leb m.start limit))
    where
      go : (t : Bool) → earlier (cond t 0 1) 1 ≡ 1
      go true = refl
      go false = refl

  inner : m.length ≤ limit → rows * columns ≡ m.length → row < rows
      → first_failed (within_limit off ∷ within_limit columns ∷ starts ∷ check 6 (leb (off + columns) m.length) ∷ [])
      ≡ first_failed (starts ∷ [])
  unfolding first_failed earlier
  inner short grid inside =
      let far = mul-le-mul_left columns inside in
      let first = le-leb off limit (omega (arith, far)) in
      let last = le-leb (off + columns) m.length (omega (arith, far)) in
      rw (first, le-leb columns limit (omega (arith, far)), last) refl

  as-slice : m.length ≤ limit → rows * columns ≡ m.length → row < rows
      → first_failed (slice_checks m bytes off columns) ≡ earlier masked both
  unfolding slice_checks piece_checks
  as-slice short grid inside =
      failed-append (mask_checks m bytes ++ _) (recounted ∷ [])
      ∙ ap (λ (x : ℕ). earlier x (first_failed (recounted ∷ [])))
      (failed-append (mask_checks m bytes) _ ∙ ap (earlier masked) (inner short grid inside))
      ∙ earlier-assoc masked (first_failed (starts ∷ [])) (first_failed (recounted ∷ []))
      ∙ ap (earlier masked) (sym (failed-append (starts ∷ []) (recounted ∷ [])))

  over_limit : limit < m.length → first_failed (slice_checks m bytes off columns) ≡ 1
  unfolding slice_checks piece_checks rank place_in
  over_limit long =
      let rest = within_limit off ∷ within_limit columns ∷ starts ∷ check 6 (leb (off + columns) m.length) ∷ [] in
      failed-append (mask_checks m bytes ++ rest) (recounted ∷ [])
      ∙ ap (λ (x : ℕ). earlier x (first_failed (recounted ∷ [])))
      (failed-append (mask_checks m bytes) rest ∙ ap (λ (x : ℕ). earlier x (first_failed rest)) (too_long long) ∙ led 0 rest refl)
      ∙ led 0 (recounted ∷ []) refl

  as-row : rows * columns ≡ m.length → row < rows → first_failed (row_checks m bytes rows columns row) ≡ earlier masked both
  as-row grid inside = by-row ∙ rw (eq-eqb (rows * columns) m.length grid, lt-ltb row rows inside) refl

  pub same-number : rows * columns ≡ m.length → row < rows
      → first_failed (slice_checks m bytes off columns) ≡ first_failed (row_checks m bytes rows columns row)
  unfolding rank place_in
  same-number grid inside = by (cases_lt limit m.length)
    where
      by : (limit < m.length) ⊎ (m.length ≤ limit)
          → first_failed (slice_checks m bytes off columns) ≡ first_failed (row_checks m bytes rows columns row)
      by (inl long) =
          over_limit long
          ∙ sym (as-row grid inside ∙ ap (λ (x : ℕ). earlier x both) (too_long long) ∙ led 0 (starts ∷ recounted ∷ []) refl)
      by (inr short) = as-slice short grid inside ∙ sym (as-row grid inside)

  -- ---- there is none

  abbrev pub there : Bool
  there = eqb (rows * columns) m.length && ltb row rows

  -- 12 if it is no grid, 6 if it is
  pub none : there ≡ false
      → first_failed (row_checks m bytes rows columns row) ≡ earlier masked (cond (eqb (rows * columns) m.length) 6 12)
  none h = by-row ∙ ap (earlier masked) (by (eqb (rows * columns) m.length) (ltb row rows) h)
    where
      by : (g i : Bool) → (g && i) ≡ false → cond g (cond i both 6) 12 ≡ cond g 6 12
      by true true h = absurd (let z : ◌≡◌ {A = ℕ} 0 1 = cc h in omega arith)
      by true false h = refl
      by false i h = refl

  later : (masked ≡ 0 → ⊥) → (k : ℕ) → before (suc k) (mask_checks m bytes) ≡ true → earlier masked (suc k) ≡ masked
  later z k b = first-least masked (suc k) z (λ e. omega arith) (failed-ranked (mask_checks m bytes) (suc k) b z)

  -- a refusal of the mask's checks comes before both
  pub mask-first : there ≡ false → (masked ≡ 0 → ⊥) → masked ≡ first_failed (row_checks m bytes rows columns row)
  unfolding mask_checks span_checks rank place_in
  mask-first h z = sym (none h ∙ by (eqb (rows * columns) m.length))
    where
      by : (g : Bool) → earlier masked (cond g 6 12) ≡ masked
      by true = later z 5 refl
      by false = later z 11 refl

  pub mask-passed : there ≡ false → masked ≡ 0
      → cond (eqb (rows * columns) m.length) 6 12 ≡ first_failed (row_checks m bytes rows columns row)
  unfolding earlier
  mask-passed h z = sym (none h ∙ ap (λ (x : ℕ). earlier x (cond (eqb (rows * columns) m.length) 6 12)) z)
