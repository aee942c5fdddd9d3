-- Flags at equal distances, gathered into words; and a column as such flags.
use Rattle.std.proofs.Common.{◌≡◌, refl, sym, ap, ap₂, ◌∙◌, ℕ, zero, suc, ◌+◌, ◌-◌, ◌*◌, ◌<◌, ◌≤◌, Bool, false, List, [], ◌∷◌, ◌++◌}
use Rattle.std.proofs.Common.{length, take, get_or, min, arith, inl, inr, ◌⊎◌}
use Rattle.std.proofs.lemmas.Bool.{cases_lt}
use Rattle.std.proofs.lemmas.List.{get_or_past}
use Rattle.std.proofs.Math.Nat.{mul-le-mul_left, mul-le-mul_right}
use Rattle.words.specs.Flags.{bits, copies, over, window, word_flags}
use Rattle.words.proofs.flags.Windows.{at_in, window-ext}
use Rattle.masks.specs.Checks.{limit}
use Rattle.masks.specs.Utils.{zeros}
use Rattle.grids.specs.Grid.{column_flags, column_zeros, flag_in, listing}
use Rattle.grids.specs.Workers.{every}
use Rattle.grids.proofs.grid.ListingLaws.{at-listing, length-listing, listing-ext, window-listing}

-- ---- one more flag at the low end of a word

window-push : (x : Bool) (m : List Bool) (d : ℕ) → window (x ∷ window m 0 d) 0 d ≡ window (x ∷ m) 0 d
window-push x m d = window-ext (x ∷ window m 0 d) (x ∷ m) 0 0 d (λ j p.
    let z : 0 + j ≡ j = omega arith in
    ap (λ (i : ℕ). get_or (x ∷ window m 0 d) i false) z ∙ by j p ∙ ap (λ (i : ℕ). get_or (x ∷ m) i false) (sym z))
  where
    by : (j : ℕ) → j < d → get_or (x ∷ window m 0 d) j false ≡ get_or (x ∷ m) j false
    by zero p = refl
    by (suc i) p = let z : 0 + i ≡ i = omega arith in at_in m 0 d i (omega arith) ∙ ap (λ (k : ℕ). get_or m k false) z

first-copy : (x : Bool) → take 1 (copies 64 x) ≡ x ∷ []
unfolding copies
first-copy x = refl

pushed : (x : Bool) (m : List Bool) (a w r : ℕ) → word_flags a ≡ copies 64 x → word_flags w ≡ window m 0 64
    → word_flags r ≡ window (take 1 (word_flags a) ++ word_flags w) 0 64 → word_flags r ≡ window (x ∷ m) 0 64
pushed x m a w r p q e =
    e ∙ ap₂ (λ (s t : List Bool). window (take 1 s ++ t) 0 64) p q ∙ ap (λ (s : List Bool). window (s ++ window m 0 64) 0 64) (first-copy x)
    ∙ window-push x m 64

-- the flags f n, f (n + 1) and so on, of which the last ones are in a word: none, and one more
pub none-gathered : (f : ℕ → Bool) → word_flags 0 ≡ window (listing 0 f) 0 64
unfolding bits listing window
none-gathered f = refl

pub one-gathered : (f : ℕ → Bool) (from n j : ℕ) (x : Bool) (a w r : ℕ) → j < n → x ≡ f (from + (n - 1 - j))
    → word_flags a ≡ copies 64 x → word_flags w ≡ window (listing j (λ k. f (from + (n - j) + k))) 0 64
    → word_flags r ≡ window (take 1 (word_flags a) ++ word_flags w) 0 64
    → word_flags r ≡ window (listing (j + 1) (λ k. f (from + (n - (j + 1)) + k))) 0 64
unfolding listing
one-gathered f from n j x a w r p t o v e =
    let s : suc j ≡ j + 1 = omega arith in
    let h : from + (n - 1 - j) ≡ from + (n - (j + 1)) + 0 = omega arith in
    pushed x _ a w r o v e
    ∙ ap (λ (l : List Bool). window l 0 64)
    (ap₂ (λ (y : Bool) (m : List Bool). y ∷ m) (t ∙ ap f h)
    (listing-ext j _ _ (λ k q. let i : from + (n - j) + k ≡ from + (n - (j + 1)) + suc k = omega arith in ap f i))
    ∙ ap (λ (i : ℕ). listing i (λ k. f (from + (n - (j + 1)) + k))) s)

-- ---- the words of a column

module _ (F : List Bool) (start rows columns c : ℕ) (inside : c < columns) where
  abbrev l : List Bool
  l = window F start (rows * columns)

  pub flag-at : (r : ℕ) → r < rows → get_or F (start + c + r * columns) false ≡ flag_in l columns r c
  flag-at r p =
      let far = mul-le-mul_left columns p in
      let e : start + c + r * columns ≡ start + (r * columns + c) = omega arith in
      ap (λ (i : ℕ). get_or F i false) e ∙ sym (at_in F start (rows * columns) (r * columns + c) (omega (arith, far)))

  pub length-column : length (column_flags l rows columns c) ≡ rows
  unfolding column_flags
  length-column = length-listing rows (λ r. flag_in l columns r c)

  at-column : (r : ℕ) → r < rows → get_or (column_flags l rows columns c) r false ≡ flag_in l columns r c
  unfolding column_flags
  at-column r p = at-listing rows (λ r. flag_in l columns r c) r false p

  -- 64 rows from number k on, or those that are left
  pub column-word : (k n : ℕ) → n ≡ min (rows - k) 64
      → window (every F (start + c) columns k n) 0 64 ≡ window (column_flags l rows columns c) k 64
  column-word k n e = window-ext (every F (start + c) columns k n) (column_flags l rows columns c) 0 k 64 (λ j p. by j p (cases_lt j n))
    where
      by : (j : ℕ) → j < 64 → (j < n) ⊎ (n ≤ j)
          → get_or (every F (start + c) columns k n) (0 + j) false ≡ get_or (column_flags l rows columns c) (k + j) false
      by j p (inl q) =
          let z : 0 + j ≡ j = omega arith in
          ap (λ (i : ℕ). get_or (every F (start + c) columns k n) i false) z
          ∙ at-listing n (λ i. get_or F (start + c + (k + i) * columns) false) j false q ∙ flag-at (k + j) (omega arith)
          ∙ sym (at-column (k + j) (omega arith))
      by j p (inr q) =
          get_or_past (every F (start + c) columns k n) (0 + j) false
          (omega (arith, length-listing n (λ i. get_or F (start + c + (k + i) * columns) false)))
          ∙ sym (get_or_past (column_flags l rows columns c) (k + j) false (omega (arith, length-column)))

  -- the column of a grid with one
  pub only-column : columns ≡ 1 → window F start rows ≡ column_flags l rows columns c
  unfolding column_flags
  only-column e =
      window-listing F start rows
      ∙ listing-ext rows _ _ (λ r p.
      let o : r * 1 ≡ r = omega arith in
      let q : r * columns ≡ r = ap (λ (k : ℕ). r * k) e ∙ o in
      let z : start + r ≡ start + c + r * columns = omega arith in
      ap (λ (i : ℕ). get_or F i false) z ∙ flag-at r p)

  -- the flags of rows 0 to r - 1, all of them
  pub whole-column : (r : ℕ) → r ≡ rows → listing r (λ i. flag_in l columns i c) ≡ column_flags l rows columns c
  unfolding column_flags
  whole-column r e = ap (λ (n : ℕ). listing n (λ i. flag_in l columns i c)) e

-- rows 0 to k - 1 of a grid that has a column are within the limit, and so are their flags; if it has a row, its columns are
pub few-rows : (rows columns c k : ℕ) → c < columns → rows * columns ≤ limit → k ≤ rows → k ≤ limit
few-rows rows columns c k inside small p =
    let one : 1 ≤ columns = omega arith in
    let more = mul-le-mul_right rows one in
    omega (arith, more)

pub few-flags : (rows columns k : ℕ) → rows * columns ≤ limit → k ≤ rows → k * columns ≤ limit
few-flags rows columns k small p = let far = mul-le-mul_left columns p in omega (arith, far)

pub few-columns : (rows columns : ℕ) → rows * columns ≤ limit → 0 < rows → columns ≤ limit
few-columns rows columns small p =
    let one : 1 ≤ rows = omega arith in
    let far = mul-le-mul_left columns one in
    omega (arith, far)

-- ---- the zeros of the columns

pub all_columns : (old : List ℕ) (l : List Bool) (rows columns n : ℕ) → n ≡ columns
    → over old (listing n (λ c. zeros (column_flags l rows columns c))) ≡ over old (column_zeros l rows columns)
unfolding column_zeros
all_columns old l rows columns n e = ap (λ (k : ℕ). over old (listing k (λ c. zeros (column_flags l rows columns c)))) e
