-- Refusals: with which numbers each call may refuse.
--
-- The calls are grouped in families; those of one family may refuse with the same numbers. `may_give` is the table of these, and `Refusals`
-- states it of each list of checks that a contract cites. The rest is said by the clauses of the call's contract: `refused`, that it
-- refuses by the number of these checks (`empty`, that it does not for no flags); `unchanged`, that a refusal leaves the lent bytes as they
-- were; `state`, that it has the record that was passed. `Witnesses` has an input for each number.
use Rattle.std.specs.Prelude.{ℕ, ◌≡◌, Bool, true, false, ◌&&◌, ◌||◌, List, [], ◌∷◌, ◌++◌, eqb, Some, None}
use Rattle.masks.specs.Aligned.{aligned_checks}
use Rattle.masks.specs.Appends.{constant_checks, gather_checks, grow_checks, span_grow_checks, subslice_checks, word_checks}
use Rattle.masks.specs.AtIndex.{and_not_at_checks}
use Rattle.masks.specs.Bitmask.{split_checks}
use Rattle.masks.specs.Checks.{Check, first_failed, order, span_checks}
use Rattle.masks.specs.Chunks.{chunk_checks}
use Rattle.masks.specs.Combine.{not_checks, pair_checks, select_checks}
use Rattle.masks.specs.Compare.{common_checks}
use Rattle.masks.specs.Freeze.{freeze_checks}
use Rattle.masks.specs.Iterator.{iter_checks}
use Rattle.masks.specs.Mask.{mask_checks, slice_checks, zeroed_checks}
use Rattle.masks.specs.NextAndNot.{next_checks}
use Rattle.masks.specs.SliceIterator.{run_checks}
use Rattle.masks.specs.Superseding.{superseding_checks}
use Rattle.masks.specs.TrueIdx.{new_true_checks, true_at, true_checks}
use Rattle.masks.specs.declared.bitmap.Bitmap.{Bitmap}
use Rattle.masks.specs.declared.builder.BitmapBuilder.{BitmapBuilder}
use Rattle.masks.specs.declared.chunks.BitChunks.{BitChunks}
use Rattle.masks.specs.declared.iterator.BitmapIter.{BitmapIter}
use Rattle.masks.specs.declared.slice_iterator.SlicesIterator.{SlicesIterator}

-- ---- what is stated of a list of checks

-- the numbers of a list of checks
unfoldable pub numbers : List Check → List ℕ
numbers [] = []
numbers (c ∷ cs) = c.number ∷ numbers cs

-- whether k is one of these numbers; whether all of the first list are among the second
unfoldable pub among : ℕ → List ℕ → Bool
among k [] = false
among k (n ∷ ns) = eqb k n || among k ns

unfoldable pub all_among : List ℕ → List ℕ → Bool
all_among [] ns = true
all_among (m ∷ ms) ns = among m ns && all_among ms ns

-- if one of these checks fails, the number of the first that does is one of ns
pub record FailsBy (ns : List ℕ) (cs : List Check) : Type 0 where
  pub number : (first_failed cs ≡ 0 → ⊥) → among (first_failed cs) ns ≡ true

-- ---- the table

pub data Family : Type 0 where
  addressed : Family
  spans : Family
  cursors : Family
  unmasked_cursors : Family
  splits : Family
  builders : Family
  pushed-words : Family
  span-appends : Family
  gathers : Family
  piece-appends : Family
  zeroed-masks : Family
  masks : Family
  slices : Family
  combinations : Family
  inversions : Family
  intersections : Family
  indexed-pairs : Family
  indexed-masks : Family
  stated-masks : Family
  stated_lengths : Family
  supersessions : Family

abbrev pub may_give : Family → List ℕ
-- `AlignedBitmapSlice::new`, `count_zeros`, `leading_zeros`, `leading_ones`, `trailing_zeros`, `trailing_ones`
may_give addressed = 1 ∷ 2 ∷ 8 ∷ []
-- `BitChunks::new`, `BitChunksExact::new`, `get_u32`, `nth_set_bit_idx`, `nth_set_bit_idx_rev`, `Bitmap::try_new`, `BitmapIter::new`
may_give spans = 1 ∷ 2 ∷ []
-- `BitChunks::next`, `BitChunks::remainder`, `BitmapIter::next`, `BitmapIter::nth`, `BitmapIter::take_leading_ones`,
-- `BitmapIter::take_leading_zeros`, `SlicesIterator::next`; `TrueIdxIter::next`, `TrueIdxIter::next_chunk` of a cursor with a mask
may_give cursors = 1 ∷ 2 ∷ 6 ∷ []
-- `TrueIdxIter::next`, `TrueIdxIter::next_chunk` of a cursor with no mask
may_give unmasked_cursors = 1 ∷ 6 ∷ []
-- `split_at_unchecked`
may_give splits = 1 ∷ 2 ∷ 6 ∷ []
-- `BitmapBuilder::push`, `BitmapBuilder::push_mut`, `BitmapBuilder::extend_constant`, `BitmapBuilder::freeze`,
-- `BitmapBuilder::into_opt_validity`
may_give builders = 1 ∷ 4 ∷ 9 ∷ []
-- `BitmapBuilder::push_word_with_len_unchecked`
may_give pushed-words = 1 ∷ 4 ∷ 6 ∷ 9 ∷ []
-- `BitmapBuilder::extend_from_slice`, `BitmapBuilder::extend_each_repeated_from_slice_unchecked`,
-- `BitmapBuilder::opt_gather_extend_from_slice`
may_give span-appends = 1 ∷ 2 ∷ 4 ∷ 9 ∷ []
-- `BitmapBuilder::gather_extend_from_slice`
may_give gathers = 1 ∷ 2 ∷ 4 ∷ 6 ∷ 9 ∷ []
-- `BitmapBuilder::subslice_extend_from_bitmap`
may_give piece-appends = 1 ∷ 2 ∷ 3 ∷ 4 ∷ 6 ∷ 9 ∷ []
-- `Bitmap::new_zeroed`
may_give zeroed-masks = 1 ∷ 9 ∷ []
-- `Bitmap::unset_bits`, `eq`, `num_edges`, `SlicesIterator::new`
may_give masks = 1 ∷ 2 ∷ 3 ∷ []
-- `Bitmap::slice`; its 7 never comes out: `never_seven`
may_give slices = 1 ∷ 2 ∷ 3 ∷ 6 ∷ 7 ∷ []
-- `and`, `and_not`, `or`, `or_not`, `xor`, `select`, `select_constant`
may_give combinations = 1 ∷ 2 ∷ 3 ∷ 5 ∷ 9 ∷ []
-- `not`
may_give inversions = 1 ∷ 2 ∷ 3 ∷ 9 ∷ []
-- `num_intersections_with`
may_give intersections = 1 ∷ 2 ∷ 3 ∷ 5 ∷ []
-- `and_not_at` and `next_and_not` of two masks, and of one
may_give indexed-pairs = 1 ∷ 2 ∷ 3 ∷ 5 ∷ 6 ∷ []
may_give indexed-masks = 1 ∷ 2 ∷ 3 ∷ 6 ∷ []
-- `TrueIdxIter::new` of a mask, and of none
may_give stated-masks = 1 ∷ 2 ∷ 3 ∷ 5 ∷ []
may_give stated_lengths = 1 ∷ []
-- `superseding_part`, `superseding`
may_give supersessions = 1 ∷ 2 ∷ 3 ∷ 14 ∷ []

-- ---- the statement, a field for each list of checks

pub record Refusals : Type 0 where
  pub in_order : (f : Family) → all_among (may_give f) order ≡ true
  -- bare spans
  pub aligned : (start n size address : ℕ) → FailsBy (may_give addressed) (aligned_checks start n size address)
  pub span : (start n size : ℕ) → FailsBy (may_give spans) (span_checks start n size)
  pub split : (start n at size : ℕ) → FailsBy (may_give splits) (split_checks start n at size)
  -- the builder
  pub grow : (b : BitmapBuilder) (n size : ℕ) → FailsBy (may_give builders) (grow_checks b n size)
  pub constant : (b : BitmapBuilder) (size n : ℕ) → FailsBy (may_give builders) (constant_checks b size n)
  pub word : (b : BitmapBuilder) (size w n : ℕ) → FailsBy (may_give pushed-words) (word_checks b size w n)
  pub span_grow : (b : BitmapBuilder) (buf bytes : List ℕ) (start n more : ℕ)
      → FailsBy (may_give span-appends) (span_grow_checks b buf bytes start n more)
  pub subslice : (b : BitmapBuilder) (buf : List ℕ) (m : Bitmap) (bytes : List ℕ) (start n : ℕ)
      → FailsBy (may_give piece-appends) (subslice_checks b buf m bytes start n)
  pub gather : (b : BitmapBuilder) (buf bytes : List ℕ) (start n : ℕ) (idxs : List ℕ)
      → FailsBy (may_give gathers) (gather_checks b buf bytes start n idxs)
  pub freeze : (b : BitmapBuilder) (size : ℕ) → FailsBy (may_give builders) (freeze_checks b size)
  -- masks
  pub zeroed : (n size : ℕ) → FailsBy (may_give zeroed-masks) (zeroed_checks n size)
  pub mask : (m : Bitmap) (bytes : List ℕ) → FailsBy (may_give masks) (mask_checks m bytes)
  pub slice : (m : Bitmap) (bytes : List ℕ) (offset n : ℕ) → FailsBy (may_give slices) (slice_checks m bytes offset n)
  -- check 7 is in the list and never fails first: if the others pass, the count is true or unknown
  pub never_seven : (m : Bitmap) (bytes : List ℕ) (offset n : ℕ) → first_failed (slice_checks m bytes offset n) ≡ 7 → ⊥
  pub pair : (a : Bitmap) (a_bytes : List ℕ) (b : Bitmap) (b_bytes : List ℕ) (size : ℕ)
      → FailsBy (may_give combinations) (pair_checks a a_bytes b b_bytes size)
  pub invert : (m : Bitmap) (bytes : List ℕ) (size : ℕ) → FailsBy (may_give inversions) (not_checks m bytes size)
  pub select : (s : Bitmap) (s_bytes : List ℕ) (t : Bitmap) (t_bytes : List ℕ) (f : Bitmap) (f_bytes : List ℕ) (size : ℕ)
      → FailsBy (may_give combinations) (select_checks s s_bytes t t_bytes f f_bytes size)
  pub eq : (a : Bitmap) (a_bytes : List ℕ) (b : Bitmap) (b_bytes : List ℕ)
      → FailsBy (may_give masks) (mask_checks a a_bytes ++ mask_checks b b_bytes)
  pub common : (a : Bitmap) (a_bytes : List ℕ) (b : Bitmap) (b_bytes : List ℕ)
      → FailsBy (may_give intersections) (common_checks a a_bytes b b_bytes)
  pub and_not_at : (a : Bitmap) (a_bytes : List ℕ) (b : Bitmap) (b_bytes : List ℕ) (i : ℕ)
      → FailsBy (may_give indexed-pairs) (and_not_at_checks (Some a) a_bytes (Some b) b_bytes i)
  pub and-not-at-first : (a : Bitmap) (a_bytes b_bytes : List ℕ) (i : ℕ)
      → FailsBy (may_give indexed-masks) (and_not_at_checks (Some a) a_bytes None b_bytes i)
  pub and-not-at-second : (a_bytes : List ℕ) (b : Bitmap) (b_bytes : List ℕ) (i : ℕ)
      → FailsBy (may_give indexed-masks) (and_not_at_checks None a_bytes (Some b) b_bytes i)
  -- without a mask there is no check
  pub and-not-at-none : (a_bytes b_bytes : List ℕ) (i : ℕ) → FailsBy [] (and_not_at_checks None a_bytes None b_bytes i)
  pub next_and_not : (a : Bitmap) (a_bytes : List ℕ) (b : Bitmap) (b_bytes : List ℕ) (from : ℕ)
      → FailsBy (may_give indexed-pairs) (next_checks a a_bytes (Some b) b_bytes from)
  pub next-and-not-alone : (a : Bitmap) (a_bytes b_bytes : List ℕ) (from : ℕ)
      → FailsBy (may_give indexed-masks) (next_checks a a_bytes None b_bytes from)
  pub superseding : (a : Bitmap) (a_bytes : List ℕ) (b : Bitmap) (b_bytes : List ℕ)
      → FailsBy (may_give supersessions) (superseding_checks a a_bytes b b_bytes)
  -- cursors
  pub chunks : (c : BitChunks) (bytes : List ℕ) → FailsBy (may_give cursors) (chunk_checks c bytes)
  pub runs : (c : SlicesIterator) (bytes : List ℕ) → FailsBy (may_give cursors) (run_checks c bytes)
  pub iter : (c : BitmapIter) (bytes : List ℕ) → FailsBy (may_give cursors) (iter_checks c bytes)
  pub true-new : (n : ℕ) (m : Bitmap) (bytes : List ℕ) → FailsBy (may_give stated-masks) (new_true_checks n (Some m) bytes)
  pub true-new_unmasked : (n : ℕ) (bytes : List ℕ) → FailsBy (may_give stated_lengths) (new_true_checks n None bytes)
  pub true-next : (start n place size : ℕ) → FailsBy (may_give cursors) (true_checks (true_at start n place true) size)
  pub true-next_unmasked : (start n place size : ℕ)
      → FailsBy (may_give unmasked_cursors) (true_checks (true_at start n place false) size)
