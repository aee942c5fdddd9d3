-- What the private functions of grids promise. No contract of a public function cites it, so it need not be believed.
use Rattle.std.specs.Prelude.{◌≡◌, ℕ, ◌+◌, ◌*◌, ◌<◌, ◌≤◌, ◌⊎◌, Bool, true, false, List, length, get_or}
use Rattle.words.specs.Flags.{count, window, word_flags}
use Rattle.grids.specs.Grid.{flag_in, listing}

-- of l the flags first, first + step, .., n of them from number `from` on
abbrev pub every : List Bool → ℕ → ℕ → ℕ → ℕ → List Bool
every l first step from n = listing n (λ j. get_or l (first + (from + j) * step) false)

-- ---- rows loaded as words

-- the first `height` words are 64 flags each of l, at first, first + distance, ..; the others are as before
pub record RowsLoaded (l : List Bool) (first distance height : ℕ) (old new : List ℕ) : Type 0 where
  pub long : length new ≡ length old
  pub loaded : (i : ℕ) → i < height → word_flags (get_or new i 0) ≡ window l (first + i * distance) 64
  pub rest : (i : ℕ) → height ≤ i → get_or new i 0 ≡ get_or old i 0

-- ---- the ones of 64 columns

-- ones has for each of 64 columns, the first of which begins at flag `first`, how many of its first n flags are set
pub record OnesOf (l : List Bool) (first distance n : ℕ) (ones : List ℕ) : Type 0 where
  pub long : length ones ≡ 64
  pub each : (c : ℕ) → c < 64 → get_or ones c 0 ≡ count (every l (first + c) distance 0 n)

-- the numbers from place `left` to `right` are those of f, the others as before
pub record Renewed (f : ℕ → ℕ) (left right : ℕ) (old new : List ℕ) : Type 0 where
  pub long : length new ≡ length old
  pub inside : (p : ℕ) → left ≤ p → p < right → get_or new p 0 ≡ f p
  pub before : (p : ℕ) → p < left → get_or new p 0 ≡ get_or old p 0
  pub after : (p : ℕ) → right ≤ p → get_or new p 0 ≡ get_or old p 0

-- ---- blocks that are transposed
--
-- Flags are only joined, never taken away. So what a step does is said by three sentences: each flag that was set still is, each flag of
-- the step is set, and no flag is set that is neither.

-- flag p of l is set
abbrev pub IsSet : List Bool → ℕ → Type 0
IsSet l p = get_or l p false ≡ true

-- the first `width` words are joined to the flags at first, first + distance, ..
pub record RowsPut (words : List ℕ) (first distance width : ℕ) (old new : List Bool) : Type 0 where
  pub long : length new ≡ length old
  pub kept : (p : ℕ) → IsSet old p → IsSet new p
  pub put : (i j : ℕ) → i < width → first + i * distance + j < length old → IsSet (word_flags (get_or words i 0)) j
      → IsSet new (first + i * distance + j)
  pub only : (p : ℕ) → IsSet new p
      → IsSet old p ⊎ ((i : ℕ) × ((j : ℕ) × ((i < width) × ((p ≡ first + i * distance + j) × IsSet (word_flags (get_or words i 0)) j))))

-- of the grid l, the flags of the rows from top to bottom and the columns from left to right are joined at their transposed places
pub record BlockJoined (l : List Bool) (rows columns top bottom left right : ℕ) (old new : List Bool) : Type 0 where
  pub long : length new ≡ length old
  pub kept : (p : ℕ) → IsSet old p → IsSet new p
  pub put : (r c : ℕ) → top ≤ r → r < bottom → r < rows → left ≤ c → c < right → c < columns → c * rows + r < length old
      → flag_in l columns r c ≡ true → IsSet new (c * rows + r)
  pub only : (p : ℕ) → IsSet new p
      → IsSet old p ⊎ ((r : ℕ) × ((c : ℕ) × ((r < rows) × ((c < columns) × ((p ≡ c * rows + r) × (flag_in l columns r c ≡ true))))))
