-- The wrong answers of the tables `proofs/tables/Wrong*.antt`, except `WrongNext`, are ruled out, by computation.
--
-- The definitions that a crate above needs for a table of its own are passed on, because that crate may not use words.
use Rattle.std.specs.Prelude.{Option, Some, None}
use Prim.Native.Nat.{ℕ}
use mathlib.Core.Path.{refl}
use mathlib.Core.Bool.{Bool, xor}
use mathlib.Core.List.{List, [], ◌∷◌, ◌++◌, zip_with}
unfoldable pub use Rattle.words.proofs.computed.WrongAnswers.{same_code}
pub use Rattle.words.proofs.computed.WrongAnswers.{tried}
use Rattle.words.specs.Counts.{any_set, same_flags}
use Rattle.words.specs.Ends.{leading, trailing}
unfoldable pub use Rattle.words.specs.Flags.{bits, count, flags_of, window}
use Rattle.words.specs.Flags.{copies, digit, over, word_of}
use Rattle.words.specs.Nth.{nth_place}
use Rattle.words.specs.Ops.{zip3}
use Rattle.masks.specs.declared.bitmap.Recounted.{Recounted}
use Rattle.masks.specs.Aligned.{aligned_checks, bulk_offset, bulk_start_of, prefix_length}
use Rattle.masks.specs.equations.Aligned.{aligned_of}
use Rattle.masks.specs.equations.Answer.{Answer, given, refused, decided, kept, unless_empty}
use Rattle.masks.specs.Appends.{all_below, constant_checks, gather_checks, gathered, inner_checks, repeated, span_grow_checks}
use Rattle.masks.specs.Appends.{subslice_checks, word_checks}
use Rattle.masks.specs.AtIndex.{and_not_at_checks, and_not_flag, flag_or, index_checks, length_checks}
use Rattle.masks.specs.equations.AtIndex.{and_not_at_of}
use Rattle.masks.specs.Bitmask.{split_checks, window_word}
use Rattle.masks.specs.equations.Bitmask.{window_at}
use Rattle.masks.specs.equations.Bitmask.{split_at}
use Rattle.masks.specs.Builder.{appended, builder_checks, builder_flags, in_progress, possible}
use Rattle.masks.specs.Checks.{address_checks, earlier, first_failed, rank, place_in, output_checks, span_checks}
use Rattle.masks.specs.Chunks.{chunk_step, chunk_word, remainder_word}
use Rattle.masks.specs.equations.Chunks.{chunks_remainder, new_chunks, next_chunk}
use Rattle.masks.specs.Combine.{largest_serial, not_checks, pair_checks, pair_flags, pair_mask}
use Rattle.masks.specs.equations.Combine.{each_bytes, each_of, pair_bytes, pair_of}
use Rattle.masks.specs.Combine.{select_checks, shortcut}
use Rattle.masks.specs.Compare.{common_checks, edges}
use Rattle.masks.specs.equations.Compare.{common_of, edges_of, eq_of}
use Rattle.masks.specs.Cursor.{Step, item, ended, cursor_checks}
use Rattle.masks.specs.Freeze.{frozen_over}
use Rattle.masks.specs.Frozen.{frozen, over_from, packed}
use Rattle.masks.specs.Iterator.{flag_step, leading_from}
use Rattle.masks.specs.equations.Iterator.{new_iter, nth_flag, take_leading}
use Rattle.masks.specs.Mask.{cut_zeros, kept_count, mask_checks, piece_checks, recounts, slice_checks}
use Rattle.masks.specs.equations.Mask.{new_zeroed_bytes, new_zeroed_of}
use Rattle.masks.specs.Mask.{zero_count, zeroed_checks}
use Rattle.masks.specs.equations.Mask.{slice_of, try_new_of, unset_bits_of}
use Rattle.masks.specs.Search.{nth_back, nth_from}
use Rattle.masks.specs.equations.Search.{search_back, search_from}
use Rattle.masks.specs.SliceIterator.{run_start, slice_step}
use Rattle.masks.specs.equations.SliceIterator.{new_slices, next_slice}
use Rattle.masks.specs.Positions.{place_after}
use Rattle.masks.specs.equations.Positions.{next_positions, positions_over}
use Rattle.masks.specs.Superseding.{superseding_checks}
use Rattle.masks.specs.equations.Superseding.{superseding_of}
use Rattle.masks.specs.TrueIdx.{first_true, new_true_checks, ones_from, ones_left, true_checks, true_flags, true_step}
use Rattle.masks.specs.equations.TrueIdx.{new_true, next_true}
use Rattle.masks.specs.Utils.{zeros}
use Rattle.masks.specs.equations.Utils.{span_count}
use Rattle.masks.proofs.tables.WrongBuilders.{WrongBuilders}
use Rattle.masks.proofs.tables.WrongCursors.{WrongCursors}
use Rattle.masks.proofs.tables.WrongMasks.{WrongMasks}
use Rattle.masks.proofs.tables.WrongSerials.{WrongSerials}
use Rattle.masks.proofs.tables.WrongSpans.{WrongSpans}
use Rattle.masks.specs.declared.aligned.AlignedBitmapSlice.{AlignedBitmapSlice}
use Rattle.masks.specs.declared.bitmap.Bitmap.{Bitmap}
use Rattle.masks.specs.declared.bitmask.Span.{Span}
use Rattle.masks.specs.declared.builder.BitmapBuilder.{BitmapBuilder}
use Rattle.masks.specs.declared.chunks.BitChunks.{BitChunks}
use Rattle.masks.specs.declared.iterator.BitmapIter.{BitmapIter}
use Rattle.masks.specs.declared.slice_iterator.Run.{Run}
use Rattle.masks.specs.declared.slice_iterator.SlicesIterator.{SlicesIterator}
use Rattle.masks.specs.declared.superseding.Winner.{Winner}
use Rattle.masks.specs.declared.true_idx.TrueIdxIter.{TrueIdxIter}

-- ---- codes: an answer as a list of numbers

abbrev pub Code : Type 0 → Type 0
Code A = A → List ℕ

abbrev pub none-code : Code (Unit {0})
none-code s = []

abbrev pub number : Code ℕ
number n = n ∷ []

abbrev pub flag : Code Bool
flag x = digit x ∷ []

abbrev pub option : {A : Type 0} → Code A → Code (Option A)
option code None = 0 ∷ []
option code (Some a) = 1 ∷ code a

abbrev pub both : {A B : Type 0} → Code A → Code B → Code (A × B)
both a b p = a p.0 ++ b p.1

abbrev pub answer : {S A : Type 0} → Code S → Code A → Code (Answer S A)
answer state value (given a) = 0 ∷ value a
answer state value (refused k s) = k ∷ state s

abbrev pub plain : {A : Type 0} → Code A → Code (Answer (Unit {0}) A)
plain value = answer none-code value

-- an answer with the bytes of a lent buffer after the call
abbrev pub writing : {A : Type 0} → Code A → Code (A × List ℕ)
writing code = both code (λ bytes. bytes)

abbrev step : {C A : Type 0} → Code C → Code A → Code (Step C A)
step cursor value (item a c) = 1 ∷ (value a ++ cursor c)
step cursor value (ended c) = 0 ∷ cursor c

-- the answer of a cursor's call
abbrev stepping : {C A : Type 0} → Code C → Code A → Code (Answer C (Step C A))
stepping cursor value = answer cursor (step cursor value)

-- ---- codes of the records

abbrev pub unset_code : Code (Option ℕ)
unset_code (Some z) = 1 ∷ z ∷ []
unset_code None = 0 ∷ []

abbrev pub mask_code : Code Bitmap
mask_code m = m.start ∷ m.length ∷ m.serial ∷ unset_code m.unset

abbrev recounted_code : Code Recounted
recounted_code r = r.zeros ∷ mask_code r.mask

abbrev builder_code : Code BitmapBuilder
builder_code b = b.length ∷ b.word ∷ b.ones ∷ b.serial ∷ []

abbrev part_code : Code Winner
part_code p = digit p.second ∷ p.from ∷ p.to ∷ mask_code p.mask

abbrev split_code : Code AlignedBitmapSlice
split_code s = s.prefix ∷ s.prefix_len ∷ s.bulk_start ∷ s.bulk_len ∷ s.suffix ∷ s.suffix_len ∷ []

abbrev span_code : Code Span
span_code s = s.start ∷ s.length ∷ []

abbrev run_code : Code Run
run_code r = r.start ∷ r.length ∷ []

abbrev chunks_code : Code BitChunks
chunks_code c = c.start ∷ c.length ∷ c.place ∷ []

abbrev iter_code : Code BitmapIter
iter_code c = c.start ∷ c.length ∷ c.place ∷ []

abbrev slices_code : Code SlicesIterator
slices_code c = c.start ∷ c.length ∷ c.place ∷ []

abbrev true_code : Code TrueIdxIter
true_code c = c.start ∷ c.length ∷ c.place ∷ flag c.masked

abbrev chunk_code : Code (Answer TrueIdxIter (ℕ × TrueIdxIter) × List ℕ)
chunk_code = writing (answer true_code (both number true_code))

abbrev append_code : Code (Answer BitmapBuilder BitmapBuilder × List ℕ)
append_code = writing (answer builder_code builder_code)

abbrev combine_code : Code (Answer (Unit {0}) Bitmap × List ℕ)
combine_code = writing (plain mask_code)

-- ---- the rows

pub spans-ruled-out : WrongSpans
unfolding
    same_code bits word_of flags_of count window leading trailing nth_place zeros
    first_failed earlier rank place_in span_checks address_checks aligned_checks cursor_checks split_checks decided unless_empty
    aligned_of prefix_length bulk_start_of bulk_offset span_count new_chunks next_chunk chunk_step chunk_word chunks_remainder
    remainder_word split_at window_at window_word search_from search_back nth_from nth_back
spans-ruled-out =
    record {
      aligned-new = tried (plain split_code) refl refl refl;
      count_zeros = tried (plain number) refl refl refl;
      count-zeros-of-none = tried (plain number) refl refl refl;
      leading_zeros = tried (plain number) refl refl refl;
      leading_ones = tried (plain number) refl refl refl;
      trailing_zeros = tried (plain number) refl refl refl;
      trailing_ones = tried (plain number) refl refl refl;
      chunks-new = tried (plain chunks_code) refl refl refl;
      chunks-new-exact = tried (plain chunks_code) refl refl refl;
      chunks-next = tried (stepping chunks_code number) refl refl refl;
      chunks-remainder = tried (answer chunks_code (both number number)) refl refl refl;
      split_at_unchecked = tried (plain (both span_code span_code)) refl refl refl;
      get_u32 = tried (plain number) refl refl refl;
      nth_set_bit_idx = tried (plain (option number)) refl refl refl;
      nth_set_bit_idx_rev = tried (plain (option number)) refl refl refl;
    }

pub builders-ruled-out : WrongBuilders
unfolding
    same_code bits word_of flags_of count copies window over any_set
    first_failed earlier rank place_in span_checks output_checks builder_checks possible decided kept
    word_checks constant_checks span_grow_checks inner_checks subslice_checks mask_checks gather_checks all_below gathered repeated
    in_progress appended packed over_from builder_flags frozen frozen_over
builders-ruled-out =
    record {
      new = tried builder_code refl refl refl;
      push = tried append_code refl refl refl;
      push_mut = tried append_code refl refl refl;
      extend_constant = tried append_code refl refl refl;
      push-word = tried append_code refl refl refl;
      extend_from_slice = tried append_code refl refl refl;
      extend-repeated = tried append_code refl refl refl;
      subslice_extend = tried append_code refl refl refl;
      gather = tried append_code refl refl refl;
      opt_gather = tried append_code refl refl refl;
      freeze = tried (writing (answer builder_code mask_code)) refl refl refl;
      into-opt-validity = tried (writing (answer builder_code (option mask_code))) refl refl refl;
    }

pub masks-ruled-out : WrongMasks
unfolding
    same_code bits word_of flags_of count copies window over zip3 zip_with same_flags xor
    first_failed earlier rank place_in span_checks output_checks mask_checks zeroed_checks piece_checks slice_checks pair_checks not_checks
    select_checks common_checks decided kept zero_count zeros cut_zeros recounts kept_count packed frozen
    try_new_of new_zeroed_of new_zeroed_bytes slice_of unset_bits_of pair_of pair_bytes pair_mask pair_flags shortcut each_of each_bytes
    largest_serial eq_of edges_of edges common_of and_not_at_of and_not_at_checks index_checks length_checks and_not_flag flag_or
masks-ruled-out =
    record {
      new = tried mask_code refl refl refl;
      new_zeroed = tried combine_code refl refl refl;
      try-new = tried (plain mask_code) refl refl refl;
      slice = tried (answer mask_code mask_code) refl refl refl;
      slice-refused = tried (answer mask_code mask_code) refl refl refl;
      unset-bits-refused = tried (answer mask_code recounted_code) refl refl refl;
      unset-bits-all = tried (answer mask_code recounted_code) refl refl refl;
      unset-bits-none = tried (answer mask_code recounted_code) refl refl refl;
      unset_bits = tried (answer mask_code recounted_code) refl refl refl;
      and = tried combine_code refl refl refl;
      and-refused = tried combine_code refl refl refl;
      and-outside = tried combine_code refl refl refl;
      and_stale = tried combine_code refl refl refl;
      and-not = tried combine_code refl refl refl;
      or = tried combine_code refl refl refl;
      or-not = tried combine_code refl refl refl;
      xor = tried combine_code refl refl refl;
      not = tried combine_code refl refl refl;
      select = tried combine_code refl refl refl;
      select_constant = tried combine_code refl refl refl;
      and_not_at = tried (plain flag) refl refl refl;
      and-not-at-second = tried (plain flag) refl refl refl;
      and-not-at-none = tried (plain flag) refl refl refl;
      and-not-at-refused = tried (plain flag) refl refl refl;
      eq = tried (plain flag) refl refl refl;
      num_edges = tried (plain number) refl refl refl;
      num_intersections_with = tried (plain number) refl refl refl;
      written-mask = tried mask_code refl refl refl;
      written-mask-of-none = tried mask_code refl refl refl;
      earlier-number = tried number refl refl refl;
      check = tried number refl refl refl;
      check_span = tried number refl refl refl;
      check_mask = tried number refl refl refl;
      check_output = tried number refl refl refl;
    }

pub cursors-ruled-out : WrongCursors
unfolding
    same_code bits flags_of count copies window leading nth_place
    first_failed earlier rank place_in span_checks cursor_checks mask_checks new_true_checks true_checks decided unless_empty
    new_slices next_slice slice_step run_start leading_from new_iter nth_flag flag_step take_leading
    new_true first_true next_true true_step true_flags nth_from next_positions positions_over place_after ones_left ones_from over kept
cursors-ruled-out =
    record {
      slices-new = tried (plain slices_code) refl refl refl;
      slices-next = tried (stepping slices_code run_code) refl refl refl;
      iter-new = tried (plain iter_code) refl refl refl;
      iter-next = tried (stepping iter_code flag) refl refl refl;
      iter-nth = tried (stepping iter_code flag) refl refl refl;
      take_leading_ones = tried (answer iter_code (both number iter_code)) refl refl refl;
      take_leading_zeros = tried (answer iter_code (both number iter_code)) refl refl refl;
      true-new = tried (plain true_code) refl refl refl;
      true-next = tried (stepping true_code number) refl refl refl;
      true-next-refused = tried (stepping true_code number) refl refl refl;
      true-chunk = tried chunk_code refl refl refl;
      true-chunk-rest = tried chunk_code refl refl refl;
    }

pub serials-ruled-out : WrongSerials
unfolding
    same_code bits word_of flags_of count copies window over zip3 same_flags xor any_set zero_count zeros
    first_failed earlier rank place_in span_checks output_checks mask_checks piece_checks slice_checks pair_checks select_checks
    builder_checks possible decided kept cut_zeros recounts kept_count packed frozen over_from in_progress appended builder_flags
    frozen_over slice_of pair_of pair_bytes pair_mask pair_flags shortcut each_of each_bytes largest_serial superseding_of
    superseding_checks
serials-ruled-out =
    record {
      superseding_part = tried (plain part_code) refl refl refl;
      superseding-part-equal = tried (plain part_code) refl refl refl;
      superseding-part-refused = tried (plain part_code) refl refl refl;
      superseding = tried (plain mask_code) refl refl refl;
      superseding_bytes = tried (λ bytes. bytes) refl refl refl;
      superseding-bytes-of-none = tried (λ bytes. bytes) refl refl refl;
      superseding-bytes-second = tried (λ bytes. bytes) refl refl refl;
      superseding-bytes-refused = tried (λ bytes. bytes) refl refl refl;
      or = tried combine_code refl refl refl;
      select = tried combine_code refl refl refl;
      slice = tried (answer mask_code mask_code) refl refl refl;
      push = tried append_code refl refl refl;
      freeze = tried (writing (answer builder_code mask_code)) refl refl refl;
    }
