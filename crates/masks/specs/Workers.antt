-- What the private functions of masks require and promise. No contract of a public function cites it, so it need not be believed.
use Rattle.masks.specs.declared.refusal.Refusal.{Refusal}
use Rattle.masks.specs.declared.refusal.Refusal.TheVariants.{CountNotOfSlice}
use Rattle.std.specs.Prelude.{◌≡◌, refl, ℕ, ◌+◌, ◌-◌, ◌*◌, ◌/◌, ◌%◌, ◌≤◌, ◌<◌, Bool, true, false, cond, ◌&&◌, ◌||◌, List, ◌++◌, eqb, leb}
use Rattle.std.specs.Prelude.{take, Option, Some, None, Result, Ok, Err}
use Rattle.words.specs.Flags.{bits, count, word_flags}
use Rattle.words.specs.Loops.{stretch}
use Rattle.masks.specs.Bitmask.{window_word}
use Rattle.masks.specs.Builder.{none_from}
use Rattle.masks.specs.Checks.{limit}
use Rattle.masks.specs.Utils.{zeros}
use Rattle.masks.specs.Iterator.{leading_from}
use Rattle.masks.specs.Mask.{mask_flags, recount_valid, sliced_count}
use Rattle.masks.specs.Search.{nth_from, nth_back}
use Rattle.masks.specs.SliceIterator.{run_of, run_start}
use Rattle.masks.specs.declared.aligned.AlignedBitmapSlice.{AlignedBitmapSlice}
use Rattle.masks.specs.declared.bitmap.Bitmap.{Bitmap}
use Rattle.masks.specs.declared.builder.BitmapBuilder.{BitmapBuilder}
use Rattle.masks.specs.declared.slice_iterator.Run.{Run}
use Rattle.std.specs.Prelude.{ℕ, Bool, Option, Some, None}
use mathlib.Core.List.{List}
use Rattle.words.specs.Flags.{copies}

-- ---- `utils`: counts over the parts of an aligned split

-- the flags of a split's parts, and of the split: its parts in a row
abbrev pub prefix_flags : AlignedBitmapSlice → List Bool
prefix_flags s = take s.prefix_len (word_flags s.prefix)

abbrev pub bulk_flags : List ℕ → AlignedBitmapSlice → List Bool
bulk_flags bytes s = stretch bytes (8 * s.bulk_start) (64 * s.bulk_len)

abbrev pub suffix_flags : AlignedBitmapSlice → List Bool
suffix_flags s = take s.suffix_len (word_flags s.suffix)

unfoldable pub split_flags : List ℕ → AlignedBitmapSlice → List Bool
split_flags bytes s = prefix_flags s ++ (bulk_flags bytes s ++ suffix_flags s)

pub parts-in-row : (bytes : List ℕ) (s : AlignedBitmapSlice)
    → split_flags bytes s ≡ prefix_flags s ++ (bulk_flags bytes s ++ suffix_flags s)
unfolding split_flags
parts-in-row bytes s = refl

-- ---- `bitmap`: a slice and its count

-- what is known of a piece whose checks 1, 2, 3 and 6 have passed
pub record PieceAllowed (m : Bitmap) (size offset n : ℕ) : Type 0 where
  pub starts : m.start ≤ limit
  pub short : m.length ≤ limit
  pub lent : m.start + m.length ≤ 8 * size
  pub inside : offset + n ≤ m.length

-- a recount of n flags: z less the zeros cut off, or that check 7 fails
unfoldable pub recounted_of : ℕ → ℕ → ℕ → Result (Option ℕ) Refusal
recounted_of z cut n = cond (leb cut z && leb (z - cut) n) (Ok (Some (z - cut))) (Err CountNotOfSlice)

-- the count of a slice of n of `old` flags, or that check 7 fails
abbrev pub cut_of : ℕ → ℕ → ℕ → Option ℕ → Result (Option ℕ) Refusal
cut_of old n cut u = cond (recount_valid old n cut u) (Ok (sliced_count old n cut u)) (Err CountNotOfSlice)

-- ---- `shortcuts`

-- the zeros of n flags that are all x
abbrev pub zeros_of_all : Bool → ℕ → ℕ
zeros_of_all true n = 0
zeros_of_all false n = n

-- the count of a mask that is not counted anew if it is known: of a mask that passes its checks, the number of its zeros
abbrev pub count_or : Option ℕ → ℕ → ℕ
count_or (Some z) n = z
count_or None n = n

abbrev pub known_or_counted : Bitmap → List ℕ → ℕ
known_or_counted m bytes = count_or m.unset (zeros (mask_flags m bytes))

-- whether a mask is all x, by its count
abbrev pub is_all : Bool → Bitmap → List ℕ → Bool
is_all x m bytes = eqb (known_or_counted m bytes) (zeros_of_all x m.length)

-- the shortcut of `and` (x is 0) and of `or` (x is 1), by whether each mask is all x
unfoldable pub either_all : Bool → Bool → Bool → Option Bool
either_all x l r = cond (l || r) (Some x) None

-- the shortcut of `xor` with a constant mask, by whether the other is all the same, all the opposite
unfoldable pub xor_all : Bool → Bool → Option Bool
xor_all same opposite = cond same (Some false) (cond opposite (Some true) None)

-- ---- `at_index`

-- the index lies in the mask, if there is one, and the mask within the limit
abbrev pub Indexed : Option Bitmap → ℕ → Type 0
Indexed (Some m) i = (m.start ≤ limit) × ((m.length ≤ limit) × (i < m.length))
Indexed None i = Unit {0}

-- ---- `builder`, `extend`, `repeat`, `gather`: what is appended

-- what the workers require of a builder to which n flags are to be appended: it is possible, and within the limit and the buffer
pub record Room (b : BitmapBuilder) (n size : ℕ) : Type 0 where
  pub short : b.length + n ≤ limit
  pub low : none_from b.word (b.length % 64) ≡ true
  pub few : b.ones ≤ 64 * (b.length / 64)
  pub holds : 8 * ((b.length + n + 63) / 64) ≤ size

-- what it takes to join the k flags of a word to those in progress: neither word has a bit outside its flags, and the word stays unfilled
pub record Inside (b : BitmapBuilder) (flags k : ℕ) : Type 0 where
  pub short : b.length ≤ limit
  pub room : b.length % 64 + k < 64
  pub low : none_from b.word (b.length % 64) ≡ true
  pub few : none_from flags k ≡ true

-- ---- `bitmask`: searches by windows of 32 flags

-- the search for `left` from `at` finds what that for n from `from` finds, and a window there with too few set flags is among the last two
pub record PassedFrom (bytes : List ℕ) (start size n from left at : ℕ) : Type 0 where
  pub same : nth_from (stretch bytes start size) left at ≡ nth_from (stretch bytes start size) n from
  pub inside : at < size
  pub stops : count (bits 32 (window_word bytes start size at)) ≤ left → size < at + 64

-- the search for `left` below `below` finds what that for n below `end` finds, and a window there with too few is among the first two
pub record PassedBack (bytes : List ℕ) (start size n end left below : ℕ) : Type 0 where
  pub same : nth_back (stretch bytes start size) left below ≡ nth_back (stretch bytes start size) n end
  pub inside : below ≤ size
  pub stops : count (bits 32 (window_word bytes start below (below - 32))) ≤ left → below < 64

-- ---- `slice_iterator`

-- the first run at or after a place. With no ones left it is empty, at the length.
unfoldable pub first_run : List Bool → ℕ → Run
first_run l place = run_of (run_start l place) (leading_from true l (run_start l place))

-- ---- `next_and_not`

-- a second mask, if there is one, has n flags and a start within the limit
abbrev pub Beside : ℕ → Option Bitmap → Type 0
Beside n (Some b) = (b.start ≤ limit) × (n ≡ b.length)
Beside n None = Unit {0}

-- l is a list of flags searched up to before flag `end`: those from `from` to before `at` are zeros
pub record PassedTo (l : List Bool) (end from at : ℕ) : Type 0 where
  pub low : from ≤ at
  pub inside : at ≤ end
  pub same : at + leading_from false l at ≡ from + leading_from false l from

-- masks that have passed their checks, and their flags from `from` to before `end`
pub record Searchable (a : Bitmap) (second : Option Bitmap) (from end : ℕ) : Type 0 where
  pub starts : a.start ≤ limit
  pub short : a.length ≤ limit
  pub beside : Beside a.length second
  pub ordered : from ≤ end
  pub inside : end ≤ a.length

-- the n flags of the result: copies of the shortcut's flag, or without a shortcut those combined flag by flag
abbrev pub result_flags : Option Bool → ℕ → List Bool → List Bool
result_flags None n flags = flags
result_flags (Some x) n flags = copies n x
