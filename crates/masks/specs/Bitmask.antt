-- Spans cut in two, and windows of 32 flags.
use Rattle.std.specs.Prelude.{ℕ, ◌+◌, ◌-◌, List, [], ◌∷◌, ◌++◌, leb, length}
use Rattle.words.specs.Flags.{word_of, window}
use Rattle.words.specs.Loops.{stretch}
use Rattle.masks.specs.Checks.{Check, check, within_limit, span_checks}
use Rattle.masks.specs.declared.bitmask.Span.{Span}

-- ---- a span cut in two

abbrev pub span_of : ℕ → ℕ → Span
span_of start n = record { start = start; length = n }

-- checks 1, 2 and 6 of a span of n flags cut at `at`. Check 1 applies to the second part's start too.
unfoldable pub split_checks : ℕ → ℕ → ℕ → ℕ → List Check
split_checks start n at size = span_checks start n size ++ (within_limit (start + at) ∷ check 6 (leb at n) ∷ [])

-- the spans of the first `at` flags, and of those after them
abbrev pub parts_at : ℕ → ℕ → ℕ → Span × Span
parts_at start n at = (span_of start at, span_of (start + at) (n - at))

-- ---- a window of 32 flags

-- the 32 flags of a span starting at the index, as a number, with zeros past the span's end
unfoldable pub window_word : List ℕ → ℕ → ℕ → ℕ → ℕ
window_word bytes start n index = word_of (window (stretch bytes start n) index 32)
