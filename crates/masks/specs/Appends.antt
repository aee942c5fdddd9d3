-- The calls that append to a builder: their checks, and the flags that they append.
--
-- Each call appends a list of flags if all its checks pass. Else the builder and the buffer are unchanged. A contract names the checks and
-- the flags of its call; the exports and the step of a history have them from two tables, `append_checks` and `append_flags`.
use Rattle.std.specs.Prelude.{ℕ, ◌+◌, Bool, true, false, ◌&&◌, List, [], ◌∷◌, ◌++◌, leb, ltb, length, get_or}
use Rattle.words.specs.Flags.{copies}
use Rattle.masks.specs.Builder.{builder_checks, none_from}
use Rattle.masks.specs.Checks.{Check, check, within_limit, span_checks}
use Rattle.masks.specs.Mask.{mask_checks}
use Rattle.masks.specs.declared.bitmap.Bitmap.{Bitmap}
use Rattle.masks.specs.declared.builder.BitmapBuilder.{BitmapBuilder}

-- ---- their checks

-- checks 1, 4 and 9 of a call that appends n flags to a builder over a buffer of `size` bytes
abbrev pub grow_checks : BitmapBuilder → ℕ → ℕ → List Check
grow_checks b n size = builder_checks b (b.length + n) size

-- the checks of an append of n flags of a word: those of `grow_checks`, check 1 of the stated length n, and check 6
unfoldable pub word_checks : BitmapBuilder → ℕ → ℕ → ℕ → List Check
word_checks b size word n = grow_checks b n size ++ (within_limit n ∷ check 6 (leb n 64 && none_from word n) ∷ [])

-- the checks of an append of n copies of a flag: those of `grow_checks`, and check 1 of the stated length n
unfoldable pub constant_checks : BitmapBuilder → ℕ → ℕ → List Check
constant_checks b size n = grow_checks b n size ++ (within_limit n ∷ [])

-- the checks of an append of m flags that reads a span of n: checks 1 and 2 of the span, and those of `grow_checks`
unfoldable pub span_grow_checks : BitmapBuilder → List ℕ → List ℕ → ℕ → ℕ → ℕ → List Check
span_grow_checks b buf bytes start n m = span_checks start n (length bytes) ++ grow_checks b m (length buf)

-- checks 1 and 6 of a piece of n flags starting at `start`, in a mask of `whole` flags
unfoldable pub inner_checks : ℕ → ℕ → ℕ → List Check
inner_checks start n whole = within_limit start ∷ within_limit n ∷ check 6 (leb (start + n) whole) ∷ []

-- the checks of an append of a piece of a mask: the mask's, the piece's, and those of `grow_checks`
unfoldable pub subslice_checks : BitmapBuilder → List ℕ → Bitmap → List ℕ → ℕ → ℕ → List Check
subslice_checks b buf m bytes start n = mask_checks m bytes ++ (inner_checks start n m.length ++ grow_checks b n (length buf))

-- whether each index is below n
unfoldable pub all_below : ℕ → List ℕ → Bool
all_below n [] = true
all_below n (i ∷ idxs) = ltb i n && all_below n idxs

-- the checks of a gather: those of its span and of as many flags as there are indices, and check 6 of the indices
unfoldable pub gather_checks : BitmapBuilder → List ℕ → List ℕ → ℕ → ℕ → List ℕ → List Check
gather_checks b buf bytes start n idxs = span_grow_checks b buf bytes start n (length idxs) ++ (check 6 (all_below n idxs) ∷ [])

-- ---- their flags

-- the flag of l at each index, 0 at or past its end
unfoldable pub gathered : List Bool → List ℕ → List Bool
gathered l [] = []
gathered l (i ∷ idxs) = get_or l i false ∷ gathered l idxs

-- each flag of a list k times, in turn
unfoldable pub repeated : ℕ → List Bool → List Bool
repeated k [] = []
repeated k (x ∷ l) = copies k x ++ repeated k l
