-- Words as rows of flags, and how many of them have each flag set.
use Rattle.std.specs.Prelude.{ℕ, zero, suc, Bool, false, List, [], ◌∷◌, get_or}
use Rattle.words.specs.Flags.{word_flags, count}

-- of each word of `rows`, flag c
unfoldable pub column : List ℕ → ℕ → List Bool
column [] c = []
column (w ∷ rows) c = get_or (word_flags w) c false ∷ column rows c

-- how many words of `rows` have flag c set, how many flag c + 1, and so on: n numbers
unfoldable pub columns_from : List ℕ → ℕ → ℕ → List ℕ
columns_from rows c zero = []
columns_from rows c (suc n) = count (column rows c) ∷ columns_from rows (suc c) n

-- for each of the 64 flags of a word, how many words of `rows` have it set
unfoldable pub column_counts : List ℕ → List ℕ
column_counts rows = columns_from rows 0 64
