-- Answers at large numbers and past the end: calls that do not check a position, a place that is the length, and high flags.
--
-- The bytes have ones after the flags of each span, so that a flag read past its end shows. A row has the numbers of a call's answer, as in
-- `StartRows`, and those of the reference's words there, worked out by hand. `proofs/computed/PastRows.antt` proves that they are equal.
use Rattle.std.specs.Prelude.{ℕ, true, false, Bool, List, [], ◌∷◌, replicate, Some, None}
use Rattle.words.specs.Flags.{digit}
use Rattle.masks.specs.equations.Answer.{Answer, given, refused}
use Rattle.masks.specs.equations.Appends.{Append, extend_bitmap, extend_opt_gather, extend_repeated, append_answer}
use Rattle.masks.specs.equations.AtIndex.{and_not_at_of}
use Rattle.masks.specs.equations.Bitmask.{window_at}
use Rattle.masks.specs.equations.Bitmask.{split_at}
use Rattle.masks.specs.Builder.{builder_under, new_builder}
use Rattle.masks.specs.Chunks.{chunks_at}
use Rattle.masks.specs.equations.Chunks.{next_chunk, chunks_remainder}
use Rattle.masks.specs.Combine.{Or}
use Rattle.masks.specs.equations.Combine.{pair_of, select_of, select_constant_of}
use Rattle.masks.specs.equations.Freeze.{freeze_of}
use Rattle.masks.specs.Iterator.{iter_at}
use Rattle.masks.specs.equations.Iterator.{nth_flag, take_leading}
use Rattle.masks.specs.Mask.{mask_of, mask_under}
use Rattle.masks.specs.equations.Mask.{slice_of, unset_bits_of}
use Rattle.masks.specs.equations.NextAndNot.{next_and_not_of}
use Rattle.masks.specs.equations.Positions.{next_positions, positions_over}
use Rattle.masks.specs.equations.Search.{search_from, search_back}
use Rattle.masks.specs.SliceIterator.{slices_at}
use Rattle.masks.specs.equations.SliceIterator.{next_slice}
use Rattle.masks.specs.equations.Superseding.{superseding_of}
use Rattle.masks.specs.TrueIdx.{true_at}
use Rattle.masks.specs.equations.TrueIdx.{next_true}
use Rattle.masks.specs.declared.bitmap.Bitmap.{Bitmap}
use Rattle.masks.specs.declared.bitmap.Recounted.{Recounted}
use Rattle.masks.specs.declared.builder.BitmapBuilder.{BitmapBuilder}
use Rattle.masks.specs.declared.next_and_not.NextFlag.{NextFlag}
use Rattle.masks.specs.declared.slice_iterator.Run.{Run}
use Rattle.masks.specs.declared.superseding.Winner.{Winner}
use Rattle.masks.proofs.tables.EdgeRows.{SplitRow}
use Rattle.masks.proofs.tables.LargeRows.{Hold, above, wide, largest}
use Rattle.masks.proofs.tables.StartRows.{numbers, stepped, chunks_numbers, iter_numbers, slices_numbers, true_numbers, paired, remaining}
use Rattle.masks.proofs.tables.StartRows.{placed, part_numbers, single}

-- ---- answers as numbers

abbrev pub appended_numbers : Answer BitmapBuilder BitmapBuilder → List ℕ
appended_numbers (given b) = b.length ∷ b.word ∷ b.ones ∷ b.serial ∷ []
appended_numbers (refused k b) = []

abbrev pub appending_to : BitmapBuilder → Append → List ℕ
appending_to b a = appended_numbers (append_answer a b (replicate 8 0xAA))

abbrev pub mask_numbers : Bitmap → List ℕ
mask_numbers m = m.start ∷ m.length ∷ m.serial ∷ []

abbrev pub made_mask : {S : Type 0} → Answer S Bitmap → List ℕ
made_mask (given m) = mask_numbers m
made_mask (refused k s) = []

abbrev pub recounted_numbers : Answer Bitmap Recounted → List ℕ
recounted_numbers (given r) = r.zeros ∷ mask_numbers r.mask
recounted_numbers (refused k m) = []

abbrev pub found_numbers : Answer (Unit {0}) NextFlag → List ℕ
found_numbers (given f) = f.windows ∷ placed (given f.position)
found_numbers (refused k s) = []

abbrev pub won : Answer (Unit {0}) Winner → List ℕ
won (given p) = digit p.second ∷ mask_numbers p.mask
won (refused k s) = k ∷ []

abbrev pub flagged : Answer (Unit {0}) Bool → List ℕ
flagged (given x) = digit x ∷ []
flagged (refused k s) = []

-- ---- inputs

-- 16 ones, of which a span has ten: flags 3 to 12
abbrev pub ones : List ℕ
ones = 0xFF ∷ 0xFF ∷ []

-- 130 flags starting at 1, all ones, then more ones
abbrev pub many : List ℕ
many = replicate 17 0xFF

-- eight ones, and eight zeros, under a serial
abbrev pub all : ℕ → Bitmap
all serial = mask_under serial 0 8 None

abbrev pub some : List ℕ
some = 0xFF ∷ []

abbrev pub none : List ℕ
none = 0 ∷ []

-- ---- past the end

unfoldable pub past_rows : List SplitRow
past_rows =
    -- `get_u32` has zeros from the end on: the last four flags, the last, none; none at a large index either
    numbers (single (window_at ones 3 10 6)) (15 ∷ [])
    ∷ numbers (single (window_at ones 3 10 9)) (1 ∷ [])
    ∷ numbers (single (window_at ones 3 10 10)) (0 ∷ [])
    ∷ numbers (single (window_at ones 3 10 32)) (0 ∷ [])
    ∷ numbers (single (window_at ones 3 10 above)) (0 ∷ [])
    ∷ numbers (single (window_at ones 3 10 largest)) (0 ∷ [])
    ∷ numbers (single (window_at ones 3 10 18446744073709551584)) (0 ∷ [])
    ∷ numbers (single (window_at many 1 130 120)) (0x3FF ∷ [])
    ∷ numbers (single (window_at ones 3 10 wide)) (0 ∷ [])
    ∷ numbers (single (window_at [] 0 0 18446744073709551584)) (0 ∷ [])
    -- a flag at the length, and one past a large sum
    ∷ numbers (stepped iter_numbers digit (nth_flag (iter_at 3 10 10) ones 0)) (3 ∷ 10 ∷ 10 ∷ [])
    ∷ numbers (stepped iter_numbers digit (nth_flag (iter_at 3 10 9) ones 0)) (1 ∷ 3 ∷ 10 ∷ 10 ∷ [])
    ∷ numbers (stepped iter_numbers digit (nth_flag (iter_at 3 10 1) ones above)) (3 ∷ 10 ∷ 10 ∷ [])
    ∷ numbers (stepped iter_numbers digit (nth_flag (iter_at 3 10 1) ones wide)) (3 ∷ 10 ∷ 10 ∷ [])
    ∷ numbers (stepped iter_numbers digit (nth_flag (iter_at 3 10 1) ones largest)) (3 ∷ 10 ∷ 10 ∷ [])
    -- equal flags at the end
    ∷ numbers (paired iter_numbers (take_leading true (iter_at 3 10 7) ones)) (3 ∷ 3 ∷ 10 ∷ 10 ∷ [])
    ∷ numbers (paired iter_numbers (take_leading true (iter_at 3 10 10) ones)) (0 ∷ 3 ∷ 10 ∷ 10 ∷ [])
    ∷ numbers (paired iter_numbers (take_leading false (iter_at 3 10 10) ones)) (0 ∷ 3 ∷ 10 ∷ 10 ∷ [])
    -- a run at the end, and none at the length
    ∷ numbers (stepped slices_numbers (λ (r : Run). r.length) (next_slice (slices_at 3 10 7) ones)) (3 ∷ 3 ∷ 10 ∷ 10 ∷ [])
    ∷ numbers (stepped slices_numbers (λ (r : Run). r.length) (next_slice (slices_at 3 10 10) ones)) (3 ∷ 10 ∷ 10 ∷ [])
    -- positions at the length, with a mask and without
    ∷ numbers (stepped true_numbers (λ (p : ℕ). p) (next_true (true_at 3 10 10 true) ones)) (3 ∷ 10 ∷ 10 ∷ 1 ∷ [])
    ∷ numbers (stepped true_numbers (λ (p : ℕ). p) (next_true (true_at 3 10 9 true) ones)) (9 ∷ 3 ∷ 10 ∷ 10 ∷ 1 ∷ [])
    ∷ numbers (stepped true_numbers (λ (p : ℕ). p) (next_true (true_at 0 10 10 false) [])) (0 ∷ 10 ∷ 10 ∷ 0 ∷ [])
    ∷ numbers (paired true_numbers (next_positions (true_at 3 10 10 true) ones 2)) (0 ∷ 3 ∷ 10 ∷ 10 ∷ 1 ∷ [])
    ∷ numbers (paired true_numbers (next_positions (true_at 3 10 8 true) ones 2)) (2 ∷ 3 ∷ 10 ∷ 10 ∷ 1 ∷ [])
    ∷ numbers (paired true_numbers (next_positions (true_at 3 10 7 true) ones above)) (3 ∷ 3 ∷ 10 ∷ 10 ∷ 1 ∷ [])
    ∷ numbers (paired true_numbers (next_positions (true_at 3 10 7 true) ones wide)) (3 ∷ 3 ∷ 10 ∷ 10 ∷ 1 ∷ [])
    ∷ numbers (paired true_numbers (next_positions (true_at 0 10 7 false) [] largest)) (3 ∷ 0 ∷ 10 ∷ 10 ∷ 0 ∷ [])
    ∷ numbers (positions_over (true_at 3 10 10 true) ones (99 ∷ [])) (99 ∷ [])
    -- words: at the last place that a cursor over 130 flags may have, and the two flags that are left, whatever the place
    ∷ numbers (stepped chunks_numbers (λ (w : ℕ). w) (next_chunk (chunks_at 1 130 130) many)) (1 ∷ 130 ∷ 130 ∷ [])
    ∷ numbers (stepped chunks_numbers (λ (w : ℕ). w) (next_chunk (chunks_at 1 63 0) many)) (1 ∷ 63 ∷ 0 ∷ [])
    ∷ numbers (remaining (chunks_remainder (chunks_at 1 130 130) many)) (3 ∷ 2 ∷ [])
    ∷ numbers (remaining (chunks_remainder (chunks_at 1 128 0) many)) (0 ∷ 0 ∷ [])
    -- searches from the end on, and below 0; ends past the length, and large numbers of set flags
    ∷ numbers (placed (search_from ones 3 10 0 9)) (9 ∷ [])
    ∷ numbers (placed (search_from ones 3 10 0 10)) []
    ∷ numbers (placed (search_from ones 3 10 0 above)) []
    ∷ numbers (placed (search_from ones 3 10 0 wide)) []
    ∷ numbers (placed (search_from ones 3 10 0 largest)) []
    ∷ numbers (placed (search_from ones 3 10 10 0)) []
    ∷ numbers (placed (search_from ones 3 10 above 0)) []
    ∷ numbers (placed (search_from ones 3 10 wide 0)) []
    ∷ numbers (placed (search_from ones 3 10 largest 1)) []
    ∷ numbers (placed (search_back ones 3 10 0 0)) []
    ∷ numbers (placed (search_back ones 3 10 0 11)) (9 ∷ [])
    ∷ numbers (placed (search_back ones 3 10 1 above)) (8 ∷ [])
    ∷ numbers (placed (search_back ones 3 10 1 wide)) (8 ∷ [])
    ∷ numbers (placed (search_back ones 3 10 0 largest)) (9 ∷ [])
    ∷ numbers (placed (search_back ones 3 10 10 wide)) []
    ∷ numbers (placed (search_back ones 3 10 above 10)) []
    ∷ numbers (placed (search_back ones 3 10 wide 10)) []
    ∷ numbers (placed (search_back ones 3 10 largest 10)) []
    -- a cut at the end, and an empty piece there
    ∷ numbers (part_numbers (split_at ones 3 10 10)) (3 ∷ 10 ∷ 13 ∷ 0 ∷ [])
    ∷ numbers (made_mask (slice_of (mask_of 3 10 None) ones 10 0)) (13 ∷ 0 ∷ 0 ∷ [])
    ∷ numbers (appending_to new_builder (extend_bitmap (mask_of 3 10 None) ones 10 0)) (0 ∷ 0 ∷ 0 ∷ 0 ∷ [])
    -- optional indexes at the end and at the largest numbers are zeros: 1,0,0,0,0,0
    ∷ numbers
    (appending_to new_builder (extend_opt_gather ones 3 10 (9 ∷ 10 ∷ 256 ∷ 65536 ∷ 4194305 ∷ 4294967295 ∷ [])))
    (6 ∷ 1 ∷ 0 ∷ 0 ∷ [])
    -- no flags repeated, however often
    ∷ numbers (appending_to new_builder (extend_repeated ones 3 0 largest)) (0 ∷ 0 ∷ 0 ∷ 0 ∷ [])
    -- `next_and_not` at the length goes round; with no mask an index is not checked
    ∷ numbers (found_numbers (next_and_not_of (mask_of 3 10 None) ones None [] 10)) (1 ∷ 0 ∷ [])
    ∷ numbers (found_numbers (next_and_not_of (mask_of 3 10 None) ones (Some (mask_of 0 10 None)) ones 10)) (1 ∷ [])
    ∷ numbers (flagged (and_not_at_of None [] None [] above)) (1 ∷ [])
    ∷ numbers (flagged (and_not_at_of None [] None [] wide)) (1 ∷ [])
    ∷ numbers (flagged (and_not_at_of None [] None [] largest)) (1 ∷ [])
    ∷ []

-- ---- serials up to the largest number

unfoldable pub serial_rows : List SplitRow
serial_rows =
    -- the larger serial wins, and equal ones are compared to the last bit
    numbers (won (superseding_of (all wide) some (all 1) none)) (0 ∷ 0 ∷ 8 ∷ wide ∷ [])
    ∷ numbers (won (superseding_of (all 1) some (all wide) none)) (1 ∷ 0 ∷ 8 ∷ wide ∷ [])
    ∷ numbers (won (superseding_of (all 4294967297) some (all 1) none)) (0 ∷ 0 ∷ 8 ∷ 4294967297 ∷ [])
    ∷ numbers (won (superseding_of (all 18446744073709551614) some (all largest) none)) (1 ∷ 0 ∷ 8 ∷ largest ∷ [])
    ∷ numbers (won (superseding_of (all largest) some (all largest) none)) (14 ∷ [])
    ∷ numbers (won (superseding_of (all largest) some (all largest) some)) (0 ∷ 0 ∷ 8 ∷ largest ∷ [])
    ∷ numbers (won (superseding_of (all 0) some (all 0) none)) (14 ∷ [])
    ∷ numbers (won (superseding_of (all 9223372036854775808) some (all 1) none)) (0 ∷ 0 ∷ 8 ∷ 9223372036854775808 ∷ [])
    -- a combination has the largest serial, of whichever mask
    ∷ numbers (made_mask (pair_of Or (all wide) some (all 1) none (replicate 8 0xAA))) (0 ∷ 8 ∷ wide ∷ [])
    ∷ numbers (made_mask (pair_of Or (all 1) some (all largest) none (replicate 8 0xAA))) (0 ∷ 8 ∷ largest ∷ [])
    ∷ numbers (made_mask (select_of (all wide) some (all 2) none (all 1) none (replicate 8 0xAA))) (0 ∷ 8 ∷ wide ∷ [])
    ∷ numbers (made_mask (select_of (all 1) some (all largest) none (all 2) none (replicate 8 0xAA))) (0 ∷ 8 ∷ largest ∷ [])
    ∷ numbers (made_mask (select_of (all 1) some (all 2) none (all largest) none (replicate 8 0xAA))) (0 ∷ 8 ∷ largest ∷ [])
    ∷ numbers (made_mask (select_constant_of (all 1) some (all wide) none true (replicate 8 0xAA))) (0 ∷ 8 ∷ wide ∷ [])
    -- the other calls keep it
    ∷ numbers (made_mask (slice_of (all largest) some 2 4)) (2 ∷ 4 ∷ largest ∷ [])
    ∷ numbers (recounted_numbers (unset_bits_of (all wide) some)) (0 ∷ 0 ∷ 8 ∷ wide ∷ [])
    ∷ numbers (appending_to (builder_under largest 0 0 0) (extend_repeated ones 3 1 3)) (3 ∷ 7 ∷ 0 ∷ largest ∷ [])
    ∷ numbers (made_mask (freeze_of (builder_under wide 3 7 0) (replicate 8 0xAA))) (0 ∷ 3 ∷ wide ∷ [])
    ∷ []

pub record PastHolds : Type 0 where
  pub pasts : Hold past_rows
  pub serials : Hold serial_rows
