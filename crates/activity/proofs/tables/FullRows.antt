-- Windows whose words have high flags, windows that keep 256 words, and numbers just above the limits of their types' smaller neighbours.
--
-- A row has the numbers of an answer at one input, and those of the reference's words there, worked out by hand.
-- `proofs/computed/FullRows.antt` proves that the columns are equal.
use Rattle.std.specs.Prelude.{ℕ, List, [], ◌∷◌, ◌++◌, map, take, replicate, get_or}
use Rattle.words.proofs.tables.HighRows.{Row, numbers, Hold}
use Rattle.activity.specs.Window.{Answer, zeros, no_minute, new_of, push_of, counts_of}
use Rattle.activity.specs.declared.window.ActivityWindow.{ActivityWindow}
use Rattle.activity.proofs.tables.Witnesses.{window_of}

-- ---- answers as numbers: the refusal, and counts number 0, 7, 8, 31, 32, 55, 56, 62 and 63

abbrev pub some_of : List ℕ → List ℕ
some_of counts = map (λ (c : ℕ). get_or counts c 0) (0 ∷ 7 ∷ 8 ∷ 31 ∷ 32 ∷ 55 ∷ 56 ∷ 62 ∷ 63 ∷ [])

abbrev pub counted : Answer (List ℕ) → List ℕ
counted a = a.refusal ∷ some_of a.value

-- in addition the place, how many words are kept, the width and the first two words
abbrev pub pushed : Answer ActivityWindow → List ℕ
pushed a = a.refusal ∷ (some_of a.value.counts ++ (a.value.place ∷ a.value.fill ∷ a.value.width ∷ take 2 a.value.words))

-- ---- inputs

-- a word with the flags 0, 7, 8, 31, 32, 55, 56 and 63, and the counts of n such words
abbrev pub spread : ℕ
spread = 0x8180000180000181

abbrev pub spread_counts : ℕ → List ℕ
spread_counts n =
    (n ∷ zeros 6) ++ ((n ∷ n ∷ zeros 22) ++ ((n ∷ n ∷ zeros 22) ++ ((n ∷ n ∷ zeros 6) ++ (n ∷ []))))

-- two minutes at width 3, of which the second has only flag 63
abbrev pub two_high : ActivityWindow
two_high = window_of (spread ∷ 0x8000000000000000 ∷ []) (take 63 (spread_counts 1) ++ (2 ∷ [])) 2 2 3

-- three words, with this place, number of kept words and width
abbrev pub three : ℕ → ℕ → ℕ → ActivityWindow
three place fill width = window_of (spread ∷ spread ∷ spread ∷ []) (spread_counts 3) place fill width

-- 256 minutes at width 256, each with these eight flags, with the counts given
abbrev pub full : List ℕ → ActivityWindow
full counts = record { words = replicate 256 spread; counts = counts; place = 0; fill = 256; width = 256 }

unfoldable pub high_rows : List Row
high_rows =
    -- high flags are counted under their own numbers, taken off with the oldest word, and added with the new one
    numbers (counted (counts_of two_high)) (0 ∷ 1 ∷ 1 ∷ 1 ∷ 1 ∷ 1 ∷ 1 ∷ 1 ∷ 0 ∷ 2 ∷ [])
    ∷ numbers (pushed (push_of two_high 0x4000000000000100))
    (0 ∷ 1 ∷ 1 ∷ 2 ∷ 1 ∷ 1 ∷ 1 ∷ 1 ∷ 1 ∷ 2 ∷ 0 ∷ 3 ∷ 3 ∷ spread ∷ 0x8000000000000000 ∷ [])
    ∷ numbers (pushed (push_of (window_of (spread ∷ []) (spread_counts 1) 0 1 1) 0x8000000000000000))
    (0 ∷ 0 ∷ 0 ∷ 0 ∷ 0 ∷ 0 ∷ 0 ∷ 0 ∷ 0 ∷ 1 ∷ 0 ∷ 1 ∷ 1 ∷ 0x8000000000000000 ∷ 0 ∷ [])
    ∷ numbers (pushed (push_of (no_minute 256) 0xFFFFFFFFFFFFFFFF)) (0 ∷ replicate 9 1 ++ (1 ∷ 1 ∷ 256 ∷ 0xFFFFFFFFFFFFFFFF ∷ 0 ∷ []))
    -- a false count of a high flag, and one that is 256 too large
    ∷ numbers (counted (counts_of (window_of (spread ∷ []) (take 63 (spread_counts 1)) 1 1 3))) (16 ∷ replicate 9 0)
    ∷ numbers (counted (counts_of (window_of (spread ∷ []) (take 63 (spread_counts 1) ++ (257 ∷ [])) 1 1 3))) (16 ∷ replicate 9 0)
    ∷ []

unfoldable pub full_rows : List Row
full_rows =
    -- 256 of 256: kept as 256, not as 0 or 255; with one word in place of another the count is 255
    numbers (counted (counts_of (full (spread_counts 256)))) (0 ∷ replicate 7 256 ++ (0 ∷ 256 ∷ []))
    ∷ numbers ((counts_of (full (spread_counts 0))).refusal ∷ []) (16 ∷ [])
    ∷ numbers (pushed (push_of (full (spread_counts 256)) 0x8000000000000000))
    (0 ∷ replicate 7 255 ++ (0 ∷ 256 ∷ 1 ∷ 256 ∷ 256 ∷ 0x8000000000000000 ∷ spread ∷ []))
    ∷ []

unfoldable pub number_rows : List Row
number_rows =
    -- widths, places and numbers of kept words that equal good ones in their low 8, 16 or 32 bits
    numbers ((new_of 512).refusal ∷ (new_of 65537).refusal ∷ (new_of 4194305).refusal ∷ (new_of 4294967297).refusal ∷ [])
    (16 ∷ 16 ∷ 16 ∷ 16 ∷ [])
    ∷ numbers
    ((push_of (three 257 3 3) 0).refusal ∷ (push_of (three 4294967297 3 3) 0).refusal ∷ (push_of (three 1 259 3) 0).refusal
    ∷ (push_of (three 1 4294967299 3) 0).refusal ∷ (push_of (three 1 3 259) 0).refusal ∷ (push_of (three 1 3 4294967299) 0).refusal
    ∷ (push_of (three 1 3 3) 0).refusal ∷ [])
    (16 ∷ 16 ∷ 16 ∷ 16 ∷ 16 ∷ 16 ∷ 0 ∷ [])
    -- a stray word whose low 32 bits are zero
    ∷ numbers ((counts_of (window_of (spread ∷ 0x100000000 ∷ []) (spread_counts 1) 1 1 3)).refusal ∷ []) (16 ∷ [])
    ∷ []

pub record FullHolds : Type 0 where
  pub highs : Hold high_rows
  pub fulls : Hold full_rows
  pub in_range : Hold number_rows
