-- Blocks of a grid: words put, and a block of rows loaded, transposed and put.
use Rattle.std.proofs.Common.{◌≡◌, sym, ap, ap₂, ◌∙◌, subst, ℕ, ◌+◌, ◌-◌, ◌*◌, ◌<◌, ◌≤◌, ◌⊎◌, inl, inr, Bool, true, false}
use Rattle.std.proofs.Common.{List, length, get_or, replicate, min, arith}
use Rattle.std.proofs.Math.Nat.{add-mul, mul-le-mul_right}
use Rattle.std.proofs.lemmas.Bool.{cases_lt}
use Rattle.std.proofs.lemmas.List.{get_or-replicate, get_or_past}
use Rattle.words.specs.Columns.{column as column'}
use Rattle.words.specs.Flags.{window, word_flags}
use Rattle.words.specs.Place.{or_at}
use Rattle.words.proofs.flags.Bits.{bits-zero, length-bits}
use Rattle.words.proofs.flags.Windows.{at_copies, at_in}
use Rattle.words.proofs.place.PlaceLaws.{length-or_at, or_at-kept, or_at-only, or_at-put}
use Rattle.words.proofs.transpose.TransposeLaws.{at-column}
use Rattle.grids.specs.Workers.{BlockJoined, IsSet, RowsLoaded, RowsPut}
use Rattle.grids.specs.Grid.{flag_in}

-- ---- words put

module _ (words : List ℕ) (first distance i : ℕ) (old cur new : List Bool) (t : RowsPut words first distance i old cur) where
  abbrev w : List Bool
  w = word_flags (get_or words i 0)

  abbrev at : ℕ
  at = first + i * distance

  put-at : (k j : ℕ) → k < i + 1 → first + k * distance + j < length old → IsSet (word_flags (get_or words k 0)) j → (k < i) ⊎ (i ≤ k)
      → IsSet (or_at cur at w) (first + k * distance + j)
  put-at k j p q s (inl h) = or_at-kept cur at w _ (t.put k j h q s)
  put-at k j p q s (inr h) =
      let f : i ≡ k = omega arith in
      let g : at + j ≡ first + k * distance + j = ap (λ (n : ℕ). first + n * distance + j) f in
      subst (IsSet (or_at cur at w)) g
      (or_at-put cur at w j (omega (arith, t.long)) (ap (λ (n : ℕ). get_or (word_flags (get_or words n 0)) j false) f ∙ s))

  only-at : (p : ℕ) → IsSet (or_at cur at w) p → IsSet old p
      ⊎ ((k : ℕ) × ((j : ℕ) × ((k < i + 1) × ((p ≡ first + k * distance + j) × IsSet (word_flags (get_or words k 0)) j))))
  only-at p s = elim (or_at-only cur at w p s) [
    | inl f ↦ elim (t.only p f) [ inl g ↦ inl g | inr g ↦ inr (g.0, (g.1.0, (omega (arith, g.1.1.0), g.1.1.1))) ]
    | inr f ↦ inr (i, (f.0, (omega arith, f.1)))
  ]

  pub one_put : new ≡ or_at cur at w → RowsPut words first distance (i + 1) old new
  one_put e =
      subst (RowsPut words first distance (i + 1) old) (sym e) (record {
        long = length-or_at cur at w ∙ t.long;
        kept = λ p s. or_at-kept cur at w p (t.kept p s);
        put = λ k j p q s. put-at k j p q s (cases_lt k i);
        only = only-at;
      })

-- ---- a block

-- row r, column c lies inside
pub place-inside : (rows columns r c : ℕ) → r < rows → c < columns → r * columns + c < rows * columns
place-inside rows columns r c p q =
    let more : (r + 1) * columns ≤ rows * columns = mul-le-mul_right columns (omega arith) in
    let e : (r + 1) * columns ≡ r * columns + columns = omega arith in
    omega arith

not-set : (x : Bool) → x ≡ false → x ≡ true → ⊥
not-set x e f = let g : false ≡ true = sym e ∙ f in let z : ◌≡◌ {A = ℕ} 0 1 = cc g in omega arith

-- no flag of 0 is set
zero-flag : (j : ℕ) → IsSet (word_flags 0) j → ⊥
zero-flag j s = elim (cases_lt j 64) [
  | inl h ↦ not-set _ (ap (λ (l : List Bool). get_or l j false) (bits-zero 64) ∙ at_copies 64 false j h) s
  | inr h ↦ not-set _ (get_or_past (word_flags 0) j false (omega (arith, length-bits 64 0))) s
]

module _ (F : List Bool) (start rows columns row column height width : ℕ) (zeros loaded exchanged : List ℕ) (old new : List Bool)
    (none : zeros ≡ replicate 64 0) (high : height ≡ min (rows - row) 64) (wide : width ≡ min (columns - column) 64)
    (load : RowsLoaded F (start + (row * columns + column)) columns height zeros loaded)
    (exchange : (r : ℕ) → r < 64 → word_flags (get_or exchanged r 0) ≡ column' loaded r)
    (put : RowsPut exchanged (column * rows + row) rows width old new) where
  abbrev l : List Bool
  l = window F start (rows * columns)

  -- flag i of row j, counted in the block
  from-list : (i j : ℕ) → row + j < rows → column + i < columns
      → flag_in l columns (row + j) (column + i) ≡ get_or F (start + (row * columns + column) + j * columns + i) false
  from-list i j p q =
      let e : start + ((row + j) * columns + (column + i)) ≡ start + (row * columns + column) + j * columns + i =
      omega (arith, add-mul row j columns) in
      at_in F start (rows * columns) ((row + j) * columns + (column + i)) (place-inside rows columns (row + j) (column + i) p q)
      ∙ ap (λ (n : ℕ). get_or F n false) e

  size : length loaded ≡ 64
  size = load.long ∙ ap length none

  zero-at : (i : ℕ) → get_or zeros i 0 ≡ 0
  zero-at i = ap (λ (t : List ℕ). get_or t i 0) none ∙ elim (cases_lt i 64) [
    | inl h ↦ get_or-replicate 64 i 0 0 h
    | inr h ↦ get_or_past (replicate 64 0) i 0 h
  ]

  -- flag j of the transposed word i
  exchanged-flag : (i j : ℕ) → i < 64 → j < height → get_or (word_flags (get_or exchanged i 0)) j false
      ≡ get_or F (start + (row * columns + column) + j * columns + i) false
  exchanged-flag i j p q =
      ap (λ (t : List Bool). get_or t j false) (exchange i p) ∙ at-column loaded i j (omega (arith, size))
      ∙ ap (λ (t : List Bool). get_or t i false) (load.loaded j q) ∙ at_in F _ 64 i p

  -- below the last row no flag of it is set
  below : (i j : ℕ) → i < 64 → height ≤ j → IsSet (word_flags (get_or exchanged i 0)) j → ⊥
  below i j p q s = elim (cases_lt j 64) [
    | inl h ↦ zero-flag i (ap (λ (n : ℕ). get_or (word_flags n) i false) (sym (load.rest j q ∙ zero-at j)) ∙ sym (at-column loaded i j
        (omega (arith, size)))
        ∙ ap (λ (t : List Bool). get_or t j false) (sym (exchange i p)) ∙ s)
    | inr h ↦ not-set _ (get_or_past (word_flags (get_or exchanged i 0)) j false (omega (arith, length-bits 64 (get_or exchanged i 0)))) s
  ]

  place : (i j : ℕ) → column * rows + row + i * rows + j ≡ (column + i) * rows + (row + j)
  place i j = omega (arith, add-mul column i rows)

  pub block_joined : BlockJoined l rows columns row (row + 64) column (column + 64) old new
  block_joined = record {
    long = put.long;
    kept = put.kept;
    put = λ r c p q x s t y h f.
        let er : row + (r - row) ≡ r = omega arith in
        let ec : column + (c - column) ≡ c = omega arith in
        let e : column * rows + row + (c - column) * rows + (r - row) ≡ c * rows + r = place (c - column) (r - row)
        ∙ ap₂ (λ (a b : ℕ). a * rows + b) ec er in
        let in_block : r - row < height = omega arith in
        subst (IsSet new) e (put.put (c - column) (r - row) (omega arith) (omega arith)
        (exchanged-flag (c - column) (r - row) (omega arith) in_block
        ∙ sym (from-list (c - column) (r - row) (omega arith) (omega arith)) ∙ ap₂ (flag_in l columns) er ec ∙ f));
    only = λ p s. elim (put.only p s) [
      | inl f ↦ inl f
      | inr f ↦ inr (found p f.0 f.1.0 f.1.1.0 f.1.1.1.0 f.1.1.1.1 (cases_lt f.1.0 height))
    ];
  }
    where
      found : (p i j : ℕ) → i < width → p ≡ column * rows + row + i * rows + j → IsSet (word_flags (get_or exchanged i 0)) j
          → (j < height) ⊎ (height ≤ j)
          → (r : ℕ) × ((c : ℕ) × ((r < rows) × ((c < columns) × ((p ≡ c * rows + r) × (flag_in l columns r c ≡ true)))))
      found p i j w e s (inl h) = (
        row + j,
        (
          column + i,
          (
            omega arith,
            (
              omega arith,
              (
                e ∙ place i j,
                from-list i j (omega arith) (omega arith) ∙ sym (exchanged-flag i j (omega arith) h) ∙ s,
              ),
            ),
          ),
        ),
      )
      found p i j w e s (inr h) = absurd (below i j (omega arith) h s)

-- ---- the last band

module _ (l : List Bool) (rows columns : ℕ) (a b : List Bool) where
  -- of the columns only those that there are
  pub to_columns : (top bottom left right : ℕ) → columns ≤ right → BlockJoined l rows columns top bottom left right a b
      → BlockJoined l rows columns top bottom left columns a b
  to_columns top bottom left right e s = record {
    long = s.long;
    kept = s.kept;
    put = λ r c p q x m n y h f. s.put r c p q x m (omega arith) y h f;
    only = s.only;
  }
