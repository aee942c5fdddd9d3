-- Large numbers: each start, length, position, index, place, repeat, count and address argument just above the limit, at 2^32, and at the
-- largest number of 64 bits. Lengths and starts are refused with 1, places and indexes with 6, false counts with 3, builders with 4,
-- addresses with 8; searches and `get_u32` check none of these and answer.
--
-- A row has the numbers of a call, 0 for an accepted one, through the definition that its contract cites, and those of the reference's
-- words there. `proofs/computed/LargeRows.antt` proves that the columns are equal.
use Rattle.std.specs.Prelude.{ℕ, ◌≡◌, true, false, List, [], ◌∷◌, map, replicate, Some, None}
use Rattle.masks.specs.equations.Aligned.{aligned_of}
use Rattle.masks.specs.equations.Appends.{Append, push_flag, extend_constant, push_word, extend_slice, extend_repeated, extend_bitmap}
use Rattle.masks.specs.equations.Appends.{extend_gather}
use Rattle.masks.specs.equations.Appends.{extend_opt_gather, append_answer}
use Rattle.masks.specs.equations.AtIndex.{and_not_at_of}
use Rattle.masks.specs.equations.Bitmask.{window_at}
use Rattle.masks.specs.equations.Bitmask.{split_at}
use Rattle.masks.specs.Builder.{builder_of, new_builder}
use Rattle.masks.specs.Checks.{first_failed, output_checks}
use Rattle.masks.specs.Chunks.{chunks_at}
use Rattle.masks.specs.equations.Chunks.{new_chunks, next_chunk, chunks_remainder}
use Rattle.masks.specs.Combine.{And}
use Rattle.masks.specs.equations.Combine.{pair_of, not_of}
use Rattle.masks.specs.equations.Compare.{edges_of}
use Rattle.masks.specs.equations.Freeze.{freeze_of, into_opt_validity_of}
use Rattle.masks.specs.Iterator.{iter_at}
use Rattle.masks.specs.equations.Iterator.{new_iter, nth_flag, take_leading}
use Rattle.masks.specs.Mask.{mask_of, mask_under}
use Rattle.masks.specs.equations.Mask.{try_new_of, new_zeroed_of, unset_bits_of, slice_of}
use Rattle.masks.specs.equations.NextAndNot.{next_and_not_of}
use Rattle.masks.specs.equations.Positions.{next_positions}
use Rattle.masks.specs.equations.Search.{search_from, search_back}
use Rattle.masks.specs.SliceIterator.{slices_at}
use Rattle.masks.specs.equations.SliceIterator.{new_slices, next_slice}
use Rattle.masks.specs.TrueIdx.{true_at}
use Rattle.masks.specs.equations.TrueIdx.{new_true, next_true}
use Rattle.masks.specs.equations.Utils.{span_count}
use Rattle.masks.specs.declared.bitmap.Bitmap.{Bitmap}
use Rattle.masks.proofs.tables.EdgeRows.{SplitRow}
use Rattle.masks.proofs.tables.StartRows.{numbers}
use Rattle.masks.proofs.tables.Witnesses.{number_of}

-- ---- the large numbers

abbrev pub above : ℕ
above = 4194305

abbrev pub wide : ℕ
wide = 4294967296

abbrev pub largest : ℕ
largest = 18446744073709551615

-- the numbers of a call at each of the three
abbrev pub at_large : (ℕ → ℕ) → List ℕ
at_large f = f above ∷ f wide ∷ f largest ∷ []

-- a row in which each of the three comes to k
abbrev pub all_give : ℕ → (ℕ → ℕ) → SplitRow
all_give k f = numbers (at_large f) (k ∷ k ∷ k ∷ [])

-- ---- inputs: a byte of ones, so that an index of which only the low bits are read finds one

abbrev pub ones : List ℕ
ones = 0xFF ∷ []

abbrev pub eight : Bitmap
eight = mask_of 0 8 None

abbrev pub over_eight : Append → ℕ
over_eight a = number_of (append_answer a new_builder (replicate 8 0xAA))

-- a mask of n ones under a serial
abbrev pub under : ℕ → ℕ → Bitmap
under serial n = mask_under serial 0 n None

-- ---- starts and lengths: 1

unfoldable pub span_rows : List SplitRow
span_rows =
    all_give 1 (λ x. number_of (new_chunks ones x 1))
    ∷ all_give 1 (λ x. number_of (new_chunks ones 0 x))
    ∷ all_give 1 (λ x. number_of (window_at ones x 1 0))
    ∷ all_give 1 (λ x. number_of (window_at ones 0 x 0))
    ∷ all_give 1 (λ x. number_of (search_from ones x 1 0 0))
    ∷ all_give 1 (λ x. number_of (search_from ones 0 x 0 0))
    ∷ all_give 1 (λ x. number_of (search_back ones x 1 0 1))
    ∷ all_give 1 (λ x. number_of (search_back ones 0 x 0 1))
    ∷ all_give 1 (λ x. number_of (split_at ones x 1 0))
    ∷ all_give 1 (λ x. number_of (split_at ones 0 x 0))
    ∷ all_give 1 (λ x. number_of (split_at ones 0 8 x))
    ∷ all_give 1 (λ x. number_of (try_new_of ones x 1))
    ∷ all_give 1 (λ x. number_of (try_new_of ones 0 x))
    ∷ all_give 1 (λ x. number_of (new_iter ones x 1))
    ∷ all_give 1 (λ x. number_of (new_iter ones 0 x))
    ∷ all_give 1 (λ x. number_of (span_count ones x 1 0 0))
    ∷ all_give 1 (λ x. number_of (span_count ones 0 x 0 0))
    ∷ all_give 1 (λ x. number_of (aligned_of ones x 1 0))
    ∷ all_give 1 (λ x. number_of (aligned_of ones 0 x 0))
    ∷ all_give 1 (λ x. number_of (new_zeroed_of x (replicate 8 0xAA)))
    ∷ all_give 1 (λ x. number_of (new_true x None []))
    ∷ all_give 1 (λ x. number_of (new_true x (Some eight) ones))
    -- of no flags neither start nor address is checked
    ∷ all_give 0 (λ x. number_of (new_iter ones x 0))
    ∷ all_give 0 (λ x. number_of (span_count ones x 0 x 0))
    ∷ all_give 0 (λ x. number_of (aligned_of ones x 0 x))
    -- cursors
    ∷ all_give 1 (λ x. number_of (next_chunk (chunks_at x 1 0) ones))
    ∷ all_give 1 (λ x. number_of (next_chunk (chunks_at 0 x 0) ones))
    ∷ all_give 1 (λ x. number_of (chunks_remainder (chunks_at x 1 0) ones))
    ∷ all_give 1 (λ x. number_of (nth_flag (iter_at x 1 0) ones 0))
    ∷ all_give 1 (λ x. number_of (nth_flag (iter_at 0 x 0) ones 0))
    ∷ all_give 1 (λ x. number_of (take_leading true (iter_at x 1 0) ones))
    ∷ all_give 1 (λ x. number_of (next_slice (slices_at x 1 0) ones))
    ∷ all_give 1 (λ x. number_of (next_slice (slices_at 0 x 0) ones))
    ∷ all_give 1 (λ x. number_of (next_true (true_at x 1 0 true) ones))
    ∷ all_give 1 (λ x. number_of (next_true (true_at 0 x 0 true) ones))
    ∷ all_give 1 (λ x. number_of (next_true (true_at x 1 0 false) []))
    ∷ all_give 1 (λ x. number_of (next_true (true_at 0 x 0 false) []))
    ∷ all_give 1 (λ x. number_of (next_positions (true_at x 1 0 true) ones 1))
    ∷ all_give 1 (λ x. number_of (next_positions (true_at 0 x 0 false) [] 1))
    -- masks
    ∷ all_give 1 (λ x. number_of (unset_bits_of (mask_of x 8 None) ones))
    ∷ all_give 1 (λ x. number_of (unset_bits_of (mask_of 0 x None) ones))
    ∷ all_give 1 (λ x. number_of (edges_of (mask_of x 8 None) ones))
    ∷ all_give 1 (λ x. number_of (new_slices (mask_of 0 x None) ones))
    ∷ all_give 1 (λ x. number_of (not_of (mask_of 0 x None) ones []))
    ∷ all_give 1 (λ x. number_of (slice_of (mask_of x 8 None) ones 0 8))
    ∷ all_give 1 (λ x. number_of (slice_of eight ones x 0))
    ∷ all_give 1 (λ x. number_of (slice_of eight ones 0 x))
    -- what is appended, and the builder's own length
    ∷ all_give 1 (λ x. over_eight (extend_constant x true))
    ∷ all_give 1 (λ x. over_eight (push_word 0 x))
    ∷ all_give 1 (λ x. over_eight (extend_slice ones x 1))
    ∷ all_give 1 (λ x. over_eight (extend_slice ones 0 x))
    ∷ all_give 1 (λ x. over_eight (extend_repeated ones x 1 1))
    ∷ all_give 1 (λ x. over_eight (extend_repeated ones 0 x 1))
    ∷ all_give 1 (λ x. over_eight (extend_bitmap (mask_of x 8 None) ones 0 1))
    ∷ all_give 1 (λ x. over_eight (extend_bitmap eight ones x 0))
    ∷ all_give 1 (λ x. over_eight (extend_bitmap eight ones 0 x))
    ∷ all_give 1 (λ x. over_eight (extend_gather ones x 1 []))
    ∷ all_give 1 (λ x. over_eight (extend_gather ones 0 x []))
    ∷ all_give 1 (λ x. over_eight (extend_opt_gather ones x 1 []))
    ∷ all_give 1 (λ x. over_eight (extend_opt_gather ones 0 x []))
    ∷ all_give 1 (λ x. number_of (append_answer (push_flag true) (builder_of x 0 0) (replicate 8 0xAA)))
    ∷ all_give 1 (λ x. number_of (freeze_of (builder_of x 0 0) (replicate 8 0xAA)))
    ∷ all_give 1 (λ x. number_of (into_opt_validity_of (builder_of x 0 0) (replicate 8 0xAA)))
    -- repeats are no length, but what they make is: 8 flags and 1 flag so often, and 2 flags 2^63 times; no flags may be repeated
    ∷ all_give 1 (λ x. over_eight (extend_repeated ones 0 8 x))
    ∷ all_give 1 (λ x. over_eight (extend_repeated ones 0 1 x))
    ∷ all_give 0 (λ x. over_eight (extend_repeated ones 0 0 x))
    ∷ numbers (over_eight (extend_repeated ones 0 2 9223372036854775808) ∷ []) (1 ∷ [])
    ∷ []

-- ---- places and indexes: 6; counts: 3; builders: 4; addresses: 8

unfoldable pub other_rows : List SplitRow
other_rows =
    all_give 6 (λ x. number_of (next_chunk (chunks_at 0 8 x) ones))
    ∷ all_give 6 (λ x. number_of (chunks_remainder (chunks_at 0 8 x) ones))
    ∷ all_give 6 (λ x. number_of (nth_flag (iter_at 0 8 x) ones 0))
    ∷ all_give 6 (λ x. number_of (take_leading true (iter_at 0 8 x) ones))
    ∷ all_give 6 (λ x. number_of (next_slice (slices_at 0 8 x) ones))
    ∷ all_give 6 (λ x. number_of (next_true (true_at 0 8 x true) ones))
    ∷ all_give 6 (λ x. number_of (next_true (true_at 0 8 x false) []))
    ∷ all_give 6 (λ x. number_of (next_positions (true_at 0 8 x true) ones 1))
    ∷ all_give 6 (λ x. number_of (and_not_at_of (Some eight) ones None [] x))
    ∷ all_give 6 (λ x. number_of (and_not_at_of None [] (Some eight) ones x))
    ∷ all_give 6 (λ x. number_of (and_not_at_of (Some eight) ones (Some eight) ones x))
    ∷ all_give 0 (λ x. number_of (and_not_at_of None [] None [] x))
    ∷ all_give 6 (λ x. number_of (next_and_not_of eight ones None [] x))
    ∷ all_give 6 (λ x. number_of (next_and_not_of eight ones (Some eight) ones x))
    -- the indexes of a gather have 32 bits
    ∷ numbers
    (over_eight (extend_gather ones 0 8 (256 ∷ [])) ∷ over_eight (extend_gather ones 0 8 (65536 ∷ []))
    ∷ over_eight (extend_gather ones 0 8 (above ∷ [])) ∷ over_eight (extend_gather ones 0 8 (7 ∷ 4294967295 ∷ [])) ∷ [])
    (6 ∷ 6 ∷ 6 ∷ 6 ∷ [])
    -- a known count: of eight ones it is 0
    ∷ all_give 3 (λ x. number_of (unset_bits_of (mask_of 0 8 (Some x)) ones))
    ∷ all_give 3 (λ x. number_of (slice_of (mask_of 0 8 (Some x)) ones 0 8))
    ∷ all_give 3 (λ x. number_of (pair_of And eight ones (mask_of 0 8 (Some x)) ones (replicate 8 0xAA)))
    ∷ all_give 3 (λ x. number_of (new_true 8 (Some (mask_of 0 8 (Some x))) ones))
    -- the ones of a builder's finished words, of which there are none, and one
    ∷ all_give 4 (λ x. number_of (freeze_of (builder_of 3 0 x) (replicate 8 0xAA)))
    ∷ all_give 4 (λ x. number_of (freeze_of (builder_of 64 0 x) (replicate 8 0xAA)))
    -- a word's bits from its length up: bit 32 alone, all of them, and the highest alone
    ∷ numbers
    (number_of (freeze_of (builder_of 3 wide 0) (replicate 8 0xAA)) ∷ number_of (freeze_of (builder_of 63 largest 0) (replicate 8 0xAA))
    ∷ over_eight (push_word wide 3) ∷ over_eight (push_word 9223372036854775808 63) ∷ over_eight (push_word largest 64) ∷ [])
    (4 ∷ 4 ∷ 6 ∷ 6 ∷ 0 ∷ [])
    -- the address of the first byte is a remainder by 8
    ∷ all_give 8 (λ x. number_of (span_count ones 0 8 x 0))
    ∷ all_give 8 (λ x. number_of (aligned_of ones 0 8 x))
    -- outputs of the largest masks: exactly full, and one byte short
    ∷ numbers (first_failed (output_checks 4194304 524288) ∷ first_failed (output_checks 4194304 524287) ∷ []) (0 ∷ 9 ∷ [])
    ∷ []

-- the statement: in every row the numbers of the definitions are those of the reference's words
abbrev pub Hold : List SplitRow → Type 0
Hold rows = map (λ (r : SplitRow). r.computed) rows ≡ map (λ (r : SplitRow). r.stated) rows

pub record LargeHolds : Type 0 where
  pub spans : Hold span_rows
  pub others : Hold other_rows
