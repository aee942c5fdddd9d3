-- Words with high flags, and many of them: rules that show only in the upper bytes of a word, past the first word of a list, or at counts
-- above 255.
--
-- A row has the numbers of a definition at one input, and those of its plain reading there, worked out by hand.
-- `proofs/computed/HighRows.antt` proves that the columns are equal.
use Rattle.std.specs.Prelude.{ℕ, ◌≡◌, true, false, List, [], ◌∷◌, ◌++◌, map, replicate, get_or, length, Result, Ok, Err}
use Rattle.words.specs.Columns.{column_counts}
use Rattle.words.specs.Counts.{any_set, same_flags}
use Rattle.words.specs.Ends.{leading, trailing}
use Rattle.words.specs.Flags.{bits, copies, count, digit, flags_of, over, over_at, window, word_flags, word_of}
use Rattle.words.specs.Loops.{combined, stretch, whole_words}
use Rattle.words.specs.Merge.{merged}
use Rattle.words.specs.Nth.{nth_one}
use Rattle.words.specs.Place.{or_at}
use Rattle.words.specs.Uniform.{all_equal, differs_early}
use Rattle.words.specs.declared.ops.Op.TheVariants.{And, AndNot, Or, OrNot, Xor, Select}

pub record Row : Type 0 where
  pub computed : List ℕ
  pub stated : List ℕ

abbrev pub numbers : List ℕ → List ℕ → Row
numbers computed stated = record { computed = computed; stated = stated }

abbrev pub nth_numbers : Result ℕ ℕ → List ℕ
nth_numbers (Ok k) = 1 ∷ k ∷ []
nth_numbers (Err k) = 0 ∷ k ∷ []

-- ---- words

-- a word with the flags 0, 7, 8, 31, 32, 55, 56 and 63
abbrev pub spread : ℕ
spread = 0x8180000180000181

-- these eight counts, and those of the flags 1, 9, 33 and 62
abbrev pub some_counts : List ℕ → List ℕ
some_counts words =
    map (λ (c : ℕ). get_or (column_counts words) c 0) (0 ∷ 7 ∷ 8 ∷ 31 ∷ 32 ∷ 55 ∷ 56 ∷ 63 ∷ 1 ∷ 9 ∷ 33 ∷ 62 ∷ [])

unfoldable pub column_rows : List Row
column_rows =
    -- each of the eight flags is counted under its own number, and no other is
    numbers (some_counts (spread ∷ [])) (1 ∷ 1 ∷ 1 ∷ 1 ∷ 1 ∷ 1 ∷ 1 ∷ 1 ∷ 0 ∷ 0 ∷ 0 ∷ 0 ∷ [])
    ∷ numbers (some_counts (spread ∷ 0x8000000000000000 ∷ 0x8000000100 ∷ 2 ∷ [])) (1 ∷ 1 ∷ 2 ∷ 1 ∷ 1 ∷ 1 ∷ 1 ∷ 2 ∷ 1 ∷ 0 ∷ 0 ∷ 0 ∷ [])
    -- all 64 flags of the largest word, and no 65th count
    ∷ numbers (column_counts (0xFFFFFFFFFFFFFFFF ∷ [])) (replicate 64 1)
    ∷ numbers (length (column_counts (spread ∷ [])) ∷ length (column_counts []) ∷ []) (64 ∷ 64 ∷ [])
    -- counts above 255: 256, and 300 of 301 words
    ∷ numbers (get_or (column_counts (replicate 256 spread)) 63 0 ∷ get_or (column_counts (replicate 256 spread)) 8 0 ∷ []) (256 ∷ 256 ∷ [])
    ∷ numbers (get_or (column_counts (0 ∷ replicate 300 spread)) 56 0 ∷ get_or (column_counts (0 ∷ replicate 300 spread)) 57 0 ∷ [])
    (300 ∷ 0 ∷ [])
    ∷ []

unfoldable pub word_rows : List Row
word_rows =
    -- the highest bit of a word, of half a word, and of none; the largest word
    numbers (nth_numbers (nth_one (bits 64 0x8000000000000000) 0)) (1 ∷ 63 ∷ [])
    ∷ numbers (nth_numbers (nth_one (bits 32 0x80000000) 0)) (1 ∷ 31 ∷ [])
    ∷ numbers (nth_numbers (nth_one (bits 32 0x100000000) 0)) (0 ∷ 0 ∷ [])
    ∷ numbers (nth_numbers (nth_one (bits 64 0xFFFFFFFFFFFFFFFF) 63)) (1 ∷ 63 ∷ [])
    ∷ numbers (nth_numbers (nth_one (bits 64 0xFFFFFFFFFFFFFFFF) 64)) (0 ∷ 64 ∷ [])
    ∷ numbers (nth_numbers (nth_one (bits 64 spread) 4)) (1 ∷ 32 ∷ [])
    -- n just above the limit, and the largest of 32 bits
    ∷ numbers (nth_numbers (nth_one (bits 64 spread) 256)) (0 ∷ 8 ∷ [])
    ∷ numbers (nth_numbers (nth_one (bits 64 spread) 4294967295)) (0 ∷ 8 ∷ [])
    -- the eight set flags of the word; its flags as a number; its bytes in order
    ∷ numbers (count (word_flags spread) ∷ word_of (word_flags spread) ∷ []) (8 ∷ spread ∷ [])
    ∷ numbers (word_of (flags_of (0x81 ∷ 0x01 ∷ 0 ∷ 0x80 ∷ 0x01 ∷ 0 ∷ 0x80 ∷ 0x81 ∷ [])) ∷ []) (spread ∷ [])
    -- two words at offset 63, 64, above 64 and at the largest of 64 bits
    ∷ numbers (word_of (merged (word_flags 0x8000000000000000) (word_flags spread) 63) ∷ []) (0x0300000300000303 ∷ [])
    ∷ numbers (word_of (merged (word_flags spread) (word_flags 1) 64) ∷ []) (spread ∷ [])
    ∷ numbers (word_of (merged (word_flags spread) (word_flags 1) 4194305) ∷ []) (spread ∷ [])
    ∷ numbers (word_of (merged (word_flags spread) (word_flags 1) 18446744073709551615) ∷ []) (spread ∷ [])
    ∷ []

-- ---- lists longer than a word

-- 72 flags: eight ones, 56 zeros, then 1,0,0,0,0,0,0,1
abbrev pub nine : List ℕ
nine = (0xFF ∷ replicate 7 0) ++ (0x81 ∷ [])

unfoldable pub long_rows : List Row
long_rows =
    -- counts, and equal flags at the ends, of 72 flags
    numbers (count (flags_of nine) ∷ leading true (flags_of nine) ∷ leading false (stretch nine 8 64)
    ∷ trailing false (stretch nine 0 71) ∷ [])
    (10 ∷ 8 ∷ 56 ∷ 6 ∷ [])
    ∷ numbers (trailing true (copies 70 true) ∷ leading false (copies 300 false) ∷ count (copies 300 true) ∷ []) (70 ∷ 300 ∷ 300 ∷ [])
    -- whether any flag is set, whether two lists are the same, in the second word
    ∷ numbers (map digit (any_set (copies 100 false ++ (true ∷ [])) ∷ any_set (copies 100 false) ∷ [])) (1 ∷ 0 ∷ [])
    ∷ numbers
    (map digit (same_flags (copies 70 true) (copies 70 true) ∷ same_flags (copies 70 true) (copies 69 true ++ (false ∷ []))
    ∷ same_flags (copies 70 true) (copies 71 true) ∷ []))
    (1 ∷ 0 ∷ 0 ∷ [])
    ∷ numbers
    (map digit (all_equal true (copies 300 true) ∷ all_equal true (copies 299 true ++ (false ∷ []))
    ∷ all_equal false (copies 299 false ++ (true ∷ []))
    ∷ all_equal false (copies 256 true) ∷ all_equal true (copies 256 false) ∷ []))
    (1 ∷ 0 ∷ 0 ∷ 0 ∷ 0 ∷ [])
    -- the first flags that differ: the 64th, starting at 0 and at 7 of the first byte; not the 65th
    ∷ numbers
    (map digit (differs_early false (replicate 7 0 ++ (0x80 ∷ [])) 0 64 ∷ differs_early false (replicate 7 0 ++ (0x80 ∷ [])) 7 57
    ∷ differs_early false (replicate 7 0 ++ (0x80 ∷ [])) 0 63 ∷ differs_early false (replicate 8 0 ++ (0xFF ∷ [])) 0 72
    ∷ differs_early false (0xFF ∷ replicate 8 0) 8 64
    ∷ differs_early false (replicate 8 0 ++ (0xFF ∷ [])) 7 64 ∷ []))
    (1 ∷ 1 ∷ 0 ∷ 0 ∷ 0 ∷ 0 ∷ [])
    -- a stretch past the bytes is false, however far; written flags past the first word
    ∷ numbers (map digit (stretch (0xFF ∷ []) 6 4)) (1 ∷ 1 ∷ 0 ∷ 0 ∷ [])
    ∷ numbers (map digit (stretch (0xFF ∷ []) 8 2 ++ stretch (0xFF ∷ []) 256 1 ++ stretch (0xFF ∷ []) 18446744073709551615 2))
    (replicate 5 0)
    ∷ numbers (map digit (window (over_at (copies 70 false) 66 (copies 9 true)) 64 6)) (0 ∷ 0 ∷ 1 ∷ 1 ∷ 1 ∷ 1 ∷ [])
    -- flags joined past the first word
    ∷ numbers (map digit (window (or_at (copies 66 true ++ copies 4 false) 65 (false ∷ false ∷ true ∷ copies 9 true)) 64 6))
    (1 ∷ 1 ∷ 0 ∷ 1 ∷ 1 ∷ 1 ∷ [])
    ∷ numbers (over (1 ∷ 2 ∷ 3 ∷ []) (9 ∷ 8 ∷ 7 ∷ 6 ∷ [])) (9 ∷ 8 ∷ 7 ∷ [])
    ∷ numbers (length (whole_words (copies 65 true)) ∷ count (whole_words (copies 65 true)) ∷ length (whole_words []) ∷ [])
    (128 ∷ 65 ∷ 0 ∷ [])
    -- operations past the first word, and past the end of one of their bytes, where it reads false: the flags 70, 71 and 72
    ∷ numbers (map digit (combined And nine 70 nine 63 nine 0 3)) (0 ∷ 1 ∷ 0 ∷ [])
    ∷ numbers (map digit (combined AndNot nine 70 nine 63 nine 0 3)) (0 ∷ 0 ∷ 0 ∷ [])
    ∷ numbers (map digit (combined Or nine 70 nine 63 nine 0 3)) (0 ∷ 1 ∷ 0 ∷ [])
    ∷ numbers (map digit (combined OrNot nine 70 nine 63 nine 0 3)) (1 ∷ 1 ∷ 1 ∷ [])
    ∷ numbers (map digit (combined Xor nine 70 nine 63 nine 0 3)) (0 ∷ 0 ∷ 0 ∷ [])
    ∷ numbers (map digit (combined Select nine 70 nine 8 nine 0 3)) (1 ∷ 0 ∷ 1 ∷ [])
    ∷ []

-- the statement: in every row the numbers of the definition are those of its plain reading
abbrev pub Hold : List Row → Type 0
Hold rows = map (λ (r : Row). r.computed) rows ≡ map (λ (r : Row). r.stated) rows

pub record HighHolds : Type 0 where
  pub columns : Hold column_rows
  pub words : Hold word_rows
  pub longs : Hold long_rows
