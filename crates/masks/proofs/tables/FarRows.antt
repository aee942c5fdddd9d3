-- Spans that begin past the first byte and are longer than a word: starts, places, positions and indexes above 64, the bytes of 100 flags,
-- and where a winner's bytes lie.
--
-- A row has the numbers of a call's answer, as in `PastRows`, and those of the reference's words there, worked out by hand.
-- `proofs/computed/FarRows.antt` proves that the columns are equal.
use Rattle.std.specs.Prelude.{ℕ, true, false, List, [], ◌∷◌, ◌++◌, replicate, Option, Some, None}
use Rattle.words.specs.Flags.{digit}
use Rattle.masks.specs.equations.Answer.{Answer, given, refused}
use Rattle.masks.specs.equations.Appends.{extend_bitmap, extend_gather, extend_slice, push_word, append_answer}
use Rattle.masks.specs.equations.AtIndex.{and_not_at_of}
use Rattle.masks.specs.equations.Bitmask.{window_at}
use Rattle.masks.specs.equations.Bitmask.{split_at}
use Rattle.masks.specs.Builder.{builder_of, new_builder}
use Rattle.masks.specs.Chunks.{chunks_at}
use Rattle.masks.specs.equations.Chunks.{new_chunks, next_chunk, chunks_remainder}
use Rattle.masks.specs.Combine.{And}
use Rattle.masks.specs.equations.Combine.{pair_bytes, not_bytes}
use Rattle.masks.specs.equations.Compare.{edges_of, common_of}
use Rattle.masks.specs.equations.Freeze.{freeze_of, into_opt_validity_of}
use Rattle.masks.specs.Iterator.{iter_at}
use Rattle.masks.specs.equations.Iterator.{new_iter, nth_flag, take_leading}
use Rattle.masks.specs.Mask.{mask_of, mask_under}
use Rattle.masks.specs.equations.Mask.{try_new_of, slice_of, unset_bits_of}
use Rattle.masks.specs.equations.NextAndNot.{next_and_not_of}
use Rattle.masks.specs.equations.Positions.{next_positions, positions_over}
use Rattle.masks.specs.equations.Search.{search_from, search_back}
use Rattle.masks.specs.SliceIterator.{slices_at}
use Rattle.masks.specs.equations.SliceIterator.{new_slices, next_slice}
use Rattle.masks.specs.equations.Superseding.{bytes_of, place_of, superseding_of}
use Rattle.masks.specs.TrueIdx.{true_at}
use Rattle.masks.specs.equations.TrueIdx.{new_true, next_true}
use Rattle.masks.specs.declared.bitmap.Bitmap.{Bitmap}
use Rattle.masks.specs.declared.slice_iterator.Run.{Run}
use Rattle.masks.specs.declared.superseding.Winner.{Winner}
use Rattle.masks.proofs.tables.EdgeRows.{SplitRow}
use Rattle.masks.proofs.tables.LargeRows.{Hold}
use Rattle.masks.proofs.tables.PastRows.{appending_to, made_mask, mask_numbers, recounted_numbers, found_numbers, flagged}
use Rattle.masks.proofs.tables.StartRows.{numbers, stepped, chunks_numbers, iter_numbers, slices_numbers, true_numbers, made, paired}
use Rattle.masks.proofs.tables.StartRows.{remaining, many, placed, part_numbers, single}
use Rattle.masks.proofs.tables.Witnesses.{number_of}

-- ---- inputs

-- 100 flags starting at flag 11 of the 17 bytes `many`: 1,0,1,0,0,1,0,1 again and again
abbrev pub far : Bitmap
far = mask_of 11 100 None

-- 17 bytes of which only flag 81 is set, which is flag 70 of a mask that begins at 11
abbrev pub lone : List ℕ
lone = replicate 10 0 ++ (2 ∷ replicate 6 0)

abbrev pub ones : List ℕ
ones = replicate 17 0xFF

-- 17 bytes of which only flag 40 is set, which is flag 29 of that mask
abbrev pub early : List ℕ
early = replicate 5 0 ++ (1 ∷ replicate 11 0)

-- the count of a mask, after a 1 if it is known, or a 0 if it is not
abbrev pub count_numbers : Option ℕ → List ℕ
count_numbers (Some z) = 1 ∷ z ∷ []
count_numbers None = 0 ∷ []

abbrev pub frozen_count : {S : Type 0} → Answer S Bitmap → List ℕ
frozen_count (given m) = count_numbers m.unset
frozen_count (refused k s) = []

-- the count of a mask that there may be
abbrev pub validity_count : {S : Type 0} → Answer S (Option Bitmap) → List ℕ
validity_count (given (Some m)) = count_numbers m.unset
validity_count (given None) = []
validity_count (refused k s) = k ∷ k ∷ k ∷ []

-- a part's numbers; and where the bytes of a part lie, for slices at two places
abbrev pub won_part : Answer (Unit {0}) Winner → List ℕ
won_part (given p) = digit p.second ∷ p.from ∷ p.to ∷ mask_numbers p.mask
won_part (refused k s) = k ∷ []

abbrev pub lies : Answer (Unit {0}) Winner → List ℕ
lies a = (place_of a (10, 200) (30, 400)).0 ∷ (place_of a (10, 200) (30, 400)).1 ∷ []

-- ---- the rows

unfoldable pub far_rows : List SplitRow
far_rows =
    -- masks and cursors keep their start
    numbers (made_mask (try_new_of many 11 100)) (11 ∷ 100 ∷ 0 ∷ [])
    ∷ numbers (made chunks_numbers (new_chunks many 11 100)) (11 ∷ 100 ∷ 0 ∷ [])
    ∷ numbers (made iter_numbers (new_iter many 11 100)) (11 ∷ 100 ∷ 0 ∷ [])
    ∷ numbers (made slices_numbers (new_slices far many)) (11 ∷ 100 ∷ 0 ∷ [])
    ∷ numbers (made true_numbers (new_true 100 (Some far) many)) (11 ∷ 100 ∷ 0 ∷ 1 ∷ [])
    ∷ numbers (made_mask (slice_of far many 70 20)) (81 ∷ 20 ∷ 0 ∷ [])
    ∷ numbers (part_numbers (split_at many 11 100 70)) (11 ∷ 70 ∷ 81 ∷ 30 ∷ [])
    -- steps from places above 64
    ∷ numbers (stepped iter_numbers digit (nth_flag (iter_at 11 100 70) many 2)) (1 ∷ 11 ∷ 100 ∷ 73 ∷ [])
    ∷ numbers (stepped iter_numbers digit (nth_flag (iter_at 11 100 70) many 3)) (0 ∷ 11 ∷ 100 ∷ 74 ∷ [])
    ∷ numbers (stepped iter_numbers digit (nth_flag (iter_at 11 100 0) lone 70)) (1 ∷ 11 ∷ 100 ∷ 71 ∷ [])
    ∷ numbers (paired iter_numbers (take_leading false (iter_at 11 100 67) many)) (2 ∷ 11 ∷ 100 ∷ 69 ∷ [])
    ∷ numbers (paired iter_numbers (take_leading false (iter_at 11 100 0) lone)) (70 ∷ 11 ∷ 100 ∷ 70 ∷ [])
    ∷ numbers (stepped slices_numbers (λ (r : Run). r.start) (next_slice (slices_at 11 100 70) many)) (71 ∷ 11 ∷ 100 ∷ 73 ∷ [])
    ∷ numbers (stepped slices_numbers (λ (r : Run). r.length) (next_slice (slices_at 11 100 0) ones)) (100 ∷ 11 ∷ 100 ∷ 100 ∷ [])
    ∷ numbers (stepped true_numbers (λ (p : ℕ). p) (next_true (true_at 11 100 70 true) many)) (71 ∷ 11 ∷ 100 ∷ 72 ∷ 1 ∷ [])
    ∷ numbers (stepped true_numbers (λ (p : ℕ). p) (next_true (true_at 11 100 0 true) lone)) (70 ∷ 11 ∷ 100 ∷ 71 ∷ 1 ∷ [])
    ∷ numbers (paired true_numbers (next_positions (true_at 11 100 70 true) many 3)) (3 ∷ 11 ∷ 100 ∷ 75 ∷ 1 ∷ [])
    ∷ numbers (positions_over (true_at 11 100 70 true) many (99 ∷ 99 ∷ 99 ∷ [])) (71 ∷ 72 ∷ 74 ∷ [])
    ∷ numbers (stepped chunks_numbers (λ (w : ℕ). w) (next_chunk (chunks_at 11 100 0) many)) (0xA5A5A5A5A5A5A5A5 ∷ 11 ∷ 100 ∷ 1 ∷ [])
    ∷ numbers (stepped chunks_numbers (λ (w : ℕ). w) (next_chunk (chunks_at 11 100 0) early)) (0x20000000 ∷ 11 ∷ 100 ∷ 1 ∷ [])
    ∷ numbers (remaining (chunks_remainder (chunks_at 11 100 1) lone)) (64 ∷ 36 ∷ [])
    ∷ numbers (remaining (chunks_remainder (chunks_at 11 100 1) many)) (0x5A5A5A5A5 ∷ 36 ∷ [])
    -- of no flags only place 0 is one
    ∷ numbers
    (number_of (nth_flag (iter_at 0 0 1) ones 0) ∷ number_of (next_slice (slices_at 0 0 1) ones)
    ∷ number_of (next_chunk (chunks_at 0 0 1) ones) ∷ number_of (next_true (true_at 0 0 1 true) ones)
    ∷ number_of (next_true (true_at 0 0 1 false) []) ∷ number_of (next_slice (slices_at 0 0 0) []) ∷ [])
    (6 ∷ 6 ∷ 6 ∷ 6 ∷ 6 ∷ 0 ∷ [])
    -- windows and searches
    ∷ numbers (single (window_at many 11 100 66)) (0x69696969 ∷ [])
    ∷ numbers (single (window_at lone 11 100 64)) (64 ∷ [])
    ∷ numbers (placed (search_from many 11 100 1 70)) (72 ∷ [])
    ∷ numbers (placed (search_from lone 11 100 0 0)) (70 ∷ [])
    ∷ numbers (placed (search_back many 11 100 1 70)) (66 ∷ [])
    ∷ numbers (placed (search_back lone 11 100 0 100)) (70 ∷ [])
    -- counts
    ∷ numbers (recounted_numbers (unset_bits_of far many)) (50 ∷ 11 ∷ 100 ∷ 0 ∷ [])
    ∷ numbers (single (edges_of far many)) (75 ∷ [])
    ∷ numbers (single (common_of far many (mask_of 0 100 None) ones)) (50 ∷ [])
    -- one flag and the next free one
    ∷ numbers (flagged (and_not_at_of (Some far) lone None [] 70)) (1 ∷ [])
    ∷ numbers (flagged (and_not_at_of (Some far) lone None [] 6)) (0 ∷ [])
    ∷ numbers (flagged (and_not_at_of (Some far) ones (Some far) lone 70)) (0 ∷ [])
    ∷ numbers (flagged (and_not_at_of None [] (Some far) lone 70)) (0 ∷ [])
    ∷ numbers (found_numbers (next_and_not_of far lone None [] 0)) (3 ∷ 70 ∷ [])
    ∷ numbers (found_numbers (next_and_not_of far lone None [] 71)) (4 ∷ 70 ∷ [])
    ∷ numbers (found_numbers (next_and_not_of far lone (Some far) lone 64)) (4 ∷ [])
    -- appended pieces
    ∷ numbers (appending_to new_builder (extend_bitmap far many 64 5)) (5 ∷ 5 ∷ 0 ∷ 0 ∷ [])
    ∷ numbers (appending_to new_builder (extend_slice many 75 5)) (5 ∷ 5 ∷ 0 ∷ 0 ∷ [])
    ∷ numbers (appending_to new_builder (extend_gather many 11 100 (70 ∷ 71 ∷ 72 ∷ []))) (3 ∷ 6 ∷ 0 ∷ 0 ∷ [])
    -- a word of at most 64 flags, whatever the room
    ∷ numbers (number_of (append_answer (push_word 0 256) new_builder (replicate 64 0xAA)) ∷ []) (6 ∷ [])
    -- what is written: 100 flags are 16 bytes, and the 17th stays
    ∷ numbers (pair_bytes And far many (mask_of 0 100 None) ones (replicate 17 0xAA)) (replicate 12 0xA5 ++ (5 ∷ 0 ∷ 0 ∷ 0 ∷ 0xAA ∷ []))
    ∷ numbers (not_bytes far many (replicate 17 0xAA)) (replicate 12 0x5A ++ (10 ∷ 0 ∷ 0 ∷ 0 ∷ 0xAA ∷ []))
    -- ones of a builder in the upper half of its word; no mask of no flags, and of ones alone
    ∷ numbers (frozen_count (freeze_of (builder_of 100 0x800000001 40) (replicate 16 0xAA))) (1 ∷ 58 ∷ [])
    ∷ numbers (validity_count (into_opt_validity_of (builder_of 100 0x800000001 40) (replicate 16 0xAA))) (1 ∷ 58 ∷ [])
    ∷ numbers (validity_count (into_opt_validity_of new_builder [])) []
    ∷ numbers (validity_count (into_opt_validity_of (builder_of 64 0 64) (replicate 8 0xAA))) []
    ∷ numbers (validity_count (into_opt_validity_of (builder_of 64 0 63) (replicate 8 0xAA))) (1 ∷ 1 ∷ [])
    ∷ []

-- the first mask wins under serial 7, and the second under serial 9; its bytes are number 1 to 13 of its own slice
unfoldable pub part_rows : List SplitRow
part_rows =
    numbers (won_part (superseding_of (mask_under 7 11 100 None) many far ones)) (0 ∷ 1 ∷ 14 ∷ 3 ∷ 100 ∷ 7 ∷ [])
    ∷ numbers (won_part (superseding_of (mask_under 7 11 100 None) many (mask_under 9 11 100 None) lone)) (1 ∷ 1 ∷ 14 ∷ 3 ∷ 100 ∷ 9 ∷ [])
    ∷ numbers (bytes_of (superseding_of far many (mask_under 9 11 100 None) lone) many lone) (replicate 9 0 ++ (2 ∷ 0 ∷ 0 ∷ 0 ∷ []))
    -- a slice at place 200 of memory 10, and one at place 400 of memory 30
    ∷ numbers (lies (superseding_of (mask_under 7 11 100 None) many far ones)) (10 ∷ 201 ∷ [])
    ∷ numbers (lies (superseding_of far many (mask_under 9 11 100 None) lone)) (30 ∷ 401 ∷ [])
    ∷ numbers (lies (superseding_of far many far lone)) (10 ∷ 200 ∷ [])
    ∷ []

pub record FarHolds : Type 0 where
  pub fars : Hold far_rows
  pub parts : Hold part_rows
