-- The builder: its checks, and one definition of appending a list of flags.
use Rattle.std.specs.Prelude.{ℕ, ◌+◌, ◌*◌, ◌/◌, ◌%◌, Bool, not, ◌&&◌, List, ◌∷◌, ◌++◌, leb, length, take, drop}
use Rattle.words.specs.Counts.{any_set}
use Rattle.words.specs.Flags.{count, word_flags, word_of, flags_of, window}
use Rattle.masks.specs.Checks.{Check, check, within_limit, output_checks}
use Rattle.masks.specs.Frozen.{packed, over_from}
use Rattle.masks.specs.declared.builder.BitmapBuilder.{BitmapBuilder}

-- a builder and the buffer lent to it
pub record Filling : Type 0 where
  pub builder : BitmapBuilder
  pub bytes : List ℕ

abbrev pub filling : BitmapBuilder → List ℕ → Filling
filling b bytes = record { builder = b; bytes = bytes }

-- a builder under a serial, with its length, word and ones: the one place where its record is made
abbrev pub builder_under : ℕ → ℕ → ℕ → ℕ → BitmapBuilder
builder_under serial n word ones = record { length = n; word = word; ones = ones; serial = serial }

-- a builder under serial 0, as a new one is
abbrev pub builder_of : ℕ → ℕ → ℕ → BitmapBuilder
builder_of n word ones = builder_under 0 n word ones

abbrev pub new_builder : BitmapBuilder
new_builder = builder_of 0 0 0

-- a builder with its length, word and ones replaced, under its serial
abbrev pub rebuilt : BitmapBuilder → ℕ → ℕ → ℕ → BitmapBuilder
rebuilt b n word ones = builder_under b.serial n word ones

-- the flags in the word in progress of a builder
unfoldable pub in_progress : BitmapBuilder → List Bool
in_progress b = take (b.length % 64) (word_flags b.word)

-- a builder and its buffer with flags appended: of those in progress and the new ones in a row, the whole words go to the buffer after the
-- finished ones, and their ones to the count; the rest is the word in progress
unfoldable pub appended : Filling → List Bool → Filling
appended f l =
    let b = f.builder in
    let all = in_progress b ++ l in
    let whole = length all / 64 in
    filling
    (rebuilt b (b.length + length l) (word_of (drop (64 * whole) all)) (b.ones + count (take (64 * whole) all)))
    (over_from f.bytes (8 * (b.length / 64)) (packed (8 * whole) all))

-- the flags of a builder: those of the finished words in its buffer, then those in progress
unfoldable pub builder_flags : Filling → List Bool
builder_flags f = window (flags_of f.bytes) 0 (64 * (f.builder.length / 64)) ++ in_progress f.builder

-- whether no bit of a word from k up is set
abbrev pub none_from : ℕ → ℕ → Bool
none_from w k = not (any_set (drop k (word_flags w)))

-- check 4: no bit of the word from length mod 64 up is set, `ones` is at most the flags of the finished words, the buffer holds these
unfoldable pub possible : BitmapBuilder → ℕ → Bool
possible b size =
    none_from b.word (b.length % 64)
    && (leb b.ones (64 * (b.length / 64)) && leb (8 * (b.length / 64)) size)

-- checks 1, 4 and 9 of a call after which the builder has n flags, over a buffer of `size` bytes
unfoldable pub builder_checks : BitmapBuilder → ℕ → ℕ → List Check
builder_checks b n size = within_limit b.length ∷ within_limit n ∷ check 4 (possible b size) ∷ output_checks n size
