-- The words of a span that starts at any bit, and the flags after the last whole word.
use Rattle.std.specs.Prelude.{ℕ, ◌+◌, ◌*◌, ◌/◌, ◌%◌, cond, List, ltb, length}
use Rattle.words.specs.Flags.{word_of, window}
use Rattle.words.specs.Loops.{stretch}
use Rattle.masks.specs.Checks.{Check}
use Rattle.masks.specs.Cursor.{Step, item, ended, cursor_checks}
use Rattle.masks.specs.declared.chunks.BitChunks.{BitChunks}

-- a cursor over n flags starting at `start`, at a place that counts words: the one place where its record is made
abbrev pub chunks_at : ℕ → ℕ → ℕ → BitChunks
chunks_at start n place = record { start = start; length = n; place = place }

-- ---- the next word

-- word number k of a span
unfoldable pub chunk_word : List ℕ → ℕ → ℕ → ℕ → ℕ
chunk_word bytes start n k = word_of (window (stretch bytes start n) (64 * k) 64)

-- the word at the place and the cursor one further; none at floor(n / 64) and above, the cursor unmoved
unfoldable pub chunk_step : List ℕ → BitChunks → Step BitChunks ℕ
chunk_step bytes c =
    cond (ltb c.place (c.length / 64))
    (item (chunk_word bytes c.start c.length c.place) (chunks_at c.start c.length (c.place + 1)))
    (ended c)

-- checks 1, 2 and 6 of a cursor over words
abbrev pub chunk_checks : BitChunks → List ℕ → List Check
chunk_checks c bytes = cursor_checks c.start c.length c.place (length bytes)

-- ---- the remainder

-- the last n mod 64 flags of a span as a word, with zeros above them
unfoldable pub remainder_word : List ℕ → ℕ → ℕ → ℕ
remainder_word bytes start n = word_of (window (stretch bytes start n) (64 * (n / 64)) (n % 64))
