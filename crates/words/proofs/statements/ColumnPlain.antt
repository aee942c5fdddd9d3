-- The plain reading of `column_counts`: 64 numbers, of which number c is how many of the words have bit c set.
--
-- `set_in` is written with bits of numbers only: no list of flags, and no definition that `column_counts` uses.
use Rattle.std.specs.Prelude.{ℕ, ◌+◌, ◌/◌, ◌%◌, ◌^◌, ◌<◌, ◌≡◌, List, [], ◌∷◌, length, get_or}
use Rattle.words.specs.Columns.{column_counts}

-- how many of the numbers have bit c set: the sum of their bits c, each of which is 0 or 1
unfoldable pub set_in : ℕ → List ℕ → ℕ
set_in c [] = 0
set_in c (w ∷ words) = w / 2 ^ c % 2 + set_in c words

pub record ColumnPlain : Type 0 where
  pub long : (words : List ℕ) → length (column_counts words) ≡ 64
  pub each : (words : List ℕ) (c : ℕ) → c < 64 → get_or (column_counts words) c 0 ≡ set_in c words
