-- Which records a run of minutes leaves, as a check of their numbers, words and counts.
use Rattle.std.specs.Prelude.{ℕ, Bool, true, false, ◌&&◌, ◌||◌, List, [], ◌∷◌, eqb, leb, ltb, take, drop}
use Rattle.words.specs.Columns.{column_counts}
use Rattle.activity.specs.declared.window.ActivityWindow.{ActivityWindow}

-- whether a window can have this width: it keeps 1 to 256 words
unfoldable pub width_fits : ℕ → Bool
width_fits width = leb 1 width && leb width 256

-- whether `place` is `fill`, the place after the kept words, if `fill` is less than `width`
unfoldable pub place_fits : ℕ → ℕ → ℕ → Bool
place_fits place fill width = leb width fill || eqb place fill

-- whether `place` is below `width`, `fill` is at most `width`, and `place_fits`
unfoldable pub inside_fits : ℕ → ℕ → ℕ → Bool
inside_fits place fill width = ltb place width && (leb fill width && place_fits place fill width)

unfoldable pub numbers_fit : ℕ → ℕ → ℕ → Bool
numbers_fit place fill width = width_fits width && inside_fits place fill width

unfoldable pub all_zero : List ℕ → Bool
all_zero [] = true
all_zero (w ∷ words) = eqb w 0 && all_zero words

unfoldable pub same_numbers : List ℕ → List ℕ → Bool
same_numbers [] [] = true
same_numbers [] (n ∷ b) = false
same_numbers (m ∷ a) [] = false
same_numbers (m ∷ a) (n ∷ b) = eqb m n && same_numbers a b

-- whether `words` is zero after the kept ones, and each of `counts` is the number of kept words with its flag set; `fill` are kept
unfoldable pub words_fit : List ℕ → List ℕ → ℕ → Bool
words_fit words counts fill = all_zero (drop fill words) && same_numbers counts (column_counts (take fill words))

-- the check of a record. `proofs/statements/Minutes.antt` states that a record passes it if and only if a run of minutes leaves it.
unfoldable pub left_by_minutes : ActivityWindow → Bool
left_by_minutes a = numbers_fit a.place a.fill a.width && words_fit a.words a.counts a.fill
