-- Both sides of each limit: the last input that passes a check and the first that does not; what a refused call leaves; and rules that show
-- only at a start other than 0 or in a second word.
--
-- A row has the value of the definitions at one input, and that of the reference's words there, worked out by hand. Each call goes
-- through the definition that its contract cites. `proofs/computed/EdgeRows.antt` proves that the columns are equal.
use Rattle.std.specs.Prelude.{ℕ, ◌≡◌, true, false, List, [], ◌∷◌, ◌++◌, map, replicate, Some, None}
use Rattle.masks.specs.equations.Aligned.{aligned_of}
use Rattle.masks.specs.equations.Answer.{Answer, given, refused}
use Rattle.masks.specs.equations.Appends.{Append, push_flag, extend_constant, push_word, extend_slice, extend_repeated, extend_bitmap}
use Rattle.masks.specs.equations.Appends.{extend_gather}
use Rattle.masks.specs.equations.Appends.{extend_opt_gather, append_answer, append_bytes}
use Rattle.masks.specs.equations.AtIndex.{and_not_at_of}
use Rattle.masks.specs.equations.Bitmask.{window_at}
use Rattle.masks.specs.equations.Bitmask.{split_at}
use Rattle.masks.specs.Builder.{builder_of, new_builder}
use Rattle.masks.specs.Chunks.{chunks_at}
use Rattle.masks.specs.equations.Chunks.{next_chunk, chunks_remainder}
use Rattle.masks.specs.Combine.{And, AndNot, OrNot}
use Rattle.masks.specs.equations.Combine.{pair_of, pair_bytes, not_of, not_bytes, select_of, select_bytes, select_constant_of}
use Rattle.masks.specs.equations.Combine.{select_constant_bytes}
use Rattle.masks.specs.equations.Compare.{eq_of, common_of}
use Rattle.masks.proofs.tables.Examples.{Value, mask, count, bytes, accepted, refusal, sliced_value, sliced_to, mixed, frozen_in, first}
use Rattle.masks.specs.equations.Freeze.{freeze_of, freeze_bytes, into_opt_validity_of}
use Rattle.masks.specs.Iterator.{iter_at}
use Rattle.masks.specs.equations.Iterator.{new_iter, nth_flag, take_leading}
use Rattle.masks.specs.Mask.{mask_of}
use Rattle.masks.specs.equations.Mask.{try_new_of, new_zeroed_of, new_zeroed_bytes, slice_of}
use Rattle.masks.specs.equations.Positions.{positions_over}
use Rattle.masks.proofs.tables.RuleRows.{Row, row, pair_of_told}
use Rattle.masks.specs.SliceIterator.{slices_at}
use Rattle.masks.specs.equations.SliceIterator.{new_slices, next_slice}
use Rattle.masks.specs.TrueIdx.{true_at}
use Rattle.masks.specs.equations.TrueIdx.{new_true, next_true}
use Rattle.masks.specs.equations.Utils.{span_count}
use Rattle.masks.proofs.tables.Witnesses.{byte, whole, shorter, buffer}
use Rattle.masks.specs.declared.aligned.AlignedBitmapSlice.{AlignedBitmapSlice}
use Rattle.masks.specs.declared.bitmap.Bitmap.{Bitmap}
use Rattle.masks.specs.declared.builder.BitmapBuilder.{BitmapBuilder}

-- ---- the calls of the rows

-- an answer as a value: accepted, or the number
abbrev pub said : {S A : Type 0} → Answer S A → Value
said (given a) = accepted
said (refused k s) = refusal k

-- the answer of an append to a builder over n bytes, as a value
abbrev pub append_said : BitmapBuilder → ℕ → Append → Value
append_said b n a = said (append_answer a b (replicate n 0xAA))

-- the answer of `freeze` of a builder over n bytes, as a value
abbrev pub freeze_said : BitmapBuilder → ℕ → Value
freeze_said b n = said (freeze_of b (replicate n 0xAA))

-- two bytes, 1,1,1,1,0,0,0,0 and 1,0,1,1,0,1,0,0, and the twelve flags starting at 4 with their count: 0,0,0,0,1,0,1,1,0,1,0,0
abbrev pub two_bytes : List ℕ
two_bytes = 0x0F ∷ 0x2D ∷ []

abbrev pub twelve : Bitmap
twelve = mask_of 4 12 (Some 8)

-- ---- the limit

unfoldable pub limit_rows : List Row
limit_rows =
    -- Each length and each start is at most 4,194,304: at that number the next check is made.
    row (said (new_true 4194304 None [])) accepted
    ∷ row (said (new_true 4194305 None [])) (refusal 1)
    ∷ row (said (try_new_of [] 4194304 0)) (refusal 2)
    ∷ row (said (try_new_of [] 4194305 0)) (refusal 1)
    ∷ row (said (try_new_of [] 0 4194305)) (refusal 1)
    ∷ row (said (new_zeroed_of 4194304 [])) (refusal 9)
    ∷ row (said (new_zeroed_of 4194305 [])) (refusal 1)
    -- A cursor over single flags of none is made before any check.
    ∷ row (said (new_iter byte 4194304 1)) (refusal 2)
    ∷ row (said (new_iter byte 4194305 1)) (refusal 1)
    ∷ row (said (new_iter byte 0 4194305)) (refusal 1)
    ∷ row (said (new_iter byte 4194305 0)) accepted
    -- The start of a slice in its bytes, and of a split's second part, are starts too; so is the start of a piece.
    ∷ row (said (slice_of (mask_of 4194303 8 None) byte 1 4)) (refusal 2)
    ∷ row (said (slice_of (mask_of 4194304 8 None) byte 1 4)) (refusal 1)
    ∷ row (said (slice_of whole byte 0 4194305)) (refusal 1)
    ∷ row (said (split_at byte 4194303 8 1)) (refusal 2)
    ∷ row (said (split_at byte 4194304 8 1)) (refusal 1)
    ∷ row (append_said new_builder 8 (extend_bitmap whole byte 4194305 0)) (refusal 1)
    ∷ row (append_said new_builder 8 (extend_bitmap whole byte 0 4194305)) (refusal 1)
    -- The length after an append.
    ∷ row (append_said (builder_of 4194303 0 0) 0 (push_flag true)) (refusal 4)
    ∷ row (append_said (builder_of 4194304 0 0) 0 (push_flag true)) (refusal 1)
    ∷ row (append_said new_builder 8 (extend_repeated byte 0 8 524289)) (refusal 1)
    ∷ []

-- ---- the other checks

unfoldable pub edge_rows : List Row
edge_rows =
    -- 2: the span lies in the bytes lent.
    row (said (try_new_of byte 1 7)) accepted
    ∷ row (said (try_new_of byte 1 8)) (refusal 2)
    ∷ row (said (new_iter byte 1 7)) accepted
    ∷ row (said (new_iter byte 1 8)) (refusal 2)
    -- 4: no bit from length mod 64 up, only ones of finished words, a buffer that holds these words.
    ∷ row (freeze_said (builder_of 1 1 0) 8) accepted
    ∷ row (freeze_said (builder_of 1 2 0) 8) (refusal 4)
    ∷ row (freeze_said (builder_of 64 0 64) 8) accepted
    ∷ row (freeze_said (builder_of 64 0 65) 8) (refusal 4)
    ∷ row (freeze_said (builder_of 1 0 1) 8) (refusal 4)
    ∷ row (freeze_said (builder_of 64 0 0) 7) (refusal 4)
    ∷ row (said (into_opt_validity_of (builder_of 1 2 0) buffer)) (refusal 4)
    -- 5: `eq` of masks of unequal lengths is accepted.
    ∷ row (said (eq_of whole byte shorter byte)) accepted
    -- 6: pieces, splits, places and indexes up to the end, words of 64 flags.
    ∷ row (said (slice_of whole byte 4 4)) accepted
    ∷ row (said (slice_of whole byte 4 5)) (refusal 6)
    ∷ row (said (split_at byte 0 8 8)) accepted
    ∷ row (said (split_at byte 0 8 9)) (refusal 6)
    ∷ row (said (next_chunk (chunks_at 0 8 8) byte)) accepted
    ∷ row (said (next_chunk (chunks_at 0 8 9) byte)) (refusal 6)
    ∷ row (said (chunks_remainder (chunks_at 0 8 9) byte)) (refusal 6)
    ∷ row (said (nth_flag (iter_at 0 8 8) byte 0)) accepted
    ∷ row (said (nth_flag (iter_at 0 8 9) byte 0)) (refusal 6)
    ∷ row (said (take_leading true (iter_at 0 8 9) byte)) (refusal 6)
    ∷ row (said (next_slice (slices_at 0 8 8) byte)) accepted
    ∷ row (said (next_slice (slices_at 0 8 9) byte)) (refusal 6)
    ∷ row (said (next_true (true_at 0 8 8 false) [])) accepted
    ∷ row (said (next_true (true_at 0 8 9 false) [])) (refusal 6)
    ∷ row (said (and_not_at_of (Some whole) byte None [] 7)) accepted
    ∷ row (said (and_not_at_of (Some whole) byte None [] 8)) (refusal 6)
    ∷ row (said (and_not_at_of None [] (Some whole) byte 8)) (refusal 6)
    ∷ row (said (window_at byte 0 8 9)) accepted
    ∷ row (append_said new_builder 8 (push_word 0 64)) accepted
    ∷ row (append_said new_builder 16 (push_word 0 65)) (refusal 6)
    ∷ row (append_said new_builder 8 (push_word 1 1)) accepted
    ∷ row (append_said new_builder 8 (push_word 2 1)) (refusal 6)
    ∷ row (append_said new_builder 8 (extend_bitmap whole byte 4 4)) accepted
    ∷ row (append_said new_builder 8 (extend_bitmap whole byte 4 5)) (refusal 6)
    ∷ row (append_said new_builder 8 (extend_gather byte 0 8 (0 ∷ 7 ∷ []))) accepted
    ∷ row (append_said new_builder 8 (extend_gather byte 0 8 (0 ∷ 8 ∷ []))) (refusal 6)
    ∷ row (append_said new_builder 8 (extend_opt_gather byte 0 8 (0 ∷ 8 ∷ []))) accepted
    -- 8: address remainders up to 7; for no flags it is not checked.
    ∷ row (said (aligned_of byte 0 1 7)) accepted
    ∷ row (said (aligned_of byte 0 1 8)) (refusal 8)
    ∷ row (said (aligned_of byte 9 0 8)) accepted
    ∷ row (said (span_count byte 0 1 7 0)) accepted
    ∷ row (said (span_count byte 0 1 8 0)) (refusal 8)
    -- 9: whole words of the output, exactly full and one short.
    ∷ row (said (new_zeroed_of 64 (replicate 8 0xAA))) accepted
    ∷ row (said (new_zeroed_of 64 (replicate 7 0xAA))) (refusal 9)
    ∷ row (said (new_zeroed_of 65 (replicate 8 0xAA))) (refusal 9)
    ∷ row (append_said (builder_of 63 0 0) 8 (push_flag true)) accepted
    ∷ row (append_said (builder_of 64 0 0) 8 (push_flag true)) (refusal 9)
    ∷ row (append_said new_builder 8 (extend_slice byte 0 8)) accepted
    ∷ row (append_said new_builder 7 (extend_slice byte 0 8)) (refusal 9)
    ∷ row (append_said new_builder 8 (extend_repeated byte 0 8 8)) accepted
    ∷ row (append_said new_builder 8 (extend_repeated byte 0 8 9)) (refusal 9)
    ∷ []

-- ---- each mask that a call takes is checked

-- a mask that does not lie in its byte, and one of the byte, which has four zeros, with a count of 3
abbrev pub past : Bitmap
past = mask_of 2 7 None

abbrev pub false-count : Bitmap
false-count = mask_of 0 8 (Some 3)

unfoldable pub mask_rows : List Row
mask_rows =
    row (said (eq_of past byte whole byte)) (refusal 2)
    ∷ row (said (eq_of whole byte past byte)) (refusal 2)
    ∷ row (said (eq_of whole byte false-count byte)) (refusal 3)
    ∷ row (said (common_of whole byte past byte)) (refusal 2)
    ∷ row (said (common_of whole byte false-count byte)) (refusal 3)
    ∷ row (said (common_of whole byte shorter byte)) (refusal 5)
    ∷ row (said (pair_of And whole byte past byte buffer)) (refusal 2)
    ∷ row (said (pair_of And false-count byte whole byte buffer)) (refusal 3)
    ∷ row (said (pair_of And whole byte false-count byte buffer)) (refusal 3)
    ∷ row (said (pair_of And whole byte shorter byte buffer)) (refusal 5)
    ∷ row (said (pair_of And whole byte whole byte (replicate 7 0xAA))) (refusal 9)
    ∷ row (said (not_of whole byte (replicate 7 0xAA))) (refusal 9)
    ∷ row (said (select_of whole byte past byte whole byte buffer)) (refusal 2)
    ∷ row (said (select_of whole byte whole byte past byte buffer)) (refusal 2)
    ∷ row (said (select_of whole byte shorter byte whole byte buffer)) (refusal 5)
    ∷ row (said (select_of whole byte whole byte shorter byte buffer)) (refusal 5)
    ∷ row (said (select_constant_of whole byte past byte true buffer)) (refusal 2)
    ∷ row (said (select_constant_of whole byte shorter byte true buffer)) (refusal 5)
    ∷ row (said (and_not_at_of (Some whole) byte (Some past) byte 0)) (refusal 2)
    ∷ row (said (and_not_at_of (Some whole) byte (Some shorter) byte 0)) (refusal 5)
    ∷ row (said (new_true 7 (Some whole) byte)) (refusal 5)
    ∷ row (said (new_slices false-count byte)) (refusal 3)
    ∷ row (append_said new_builder 8 (extend_bitmap past byte 0 1)) (refusal 2)
    ∷ row (append_said new_builder 8 (extend_bitmap false-count byte 0 1)) (refusal 3)
    ∷ []

-- ---- a refused call writes nothing

unfoldable pub unwritten_rows : List Row
unwritten_rows =
    row (bytes (new_zeroed_bytes 65 buffer)) (bytes buffer)
    ∷ row (bytes (pair_bytes And whole byte shorter byte buffer)) (bytes buffer)
    ∷ row (bytes (not_bytes (mask_of 1 8 None) byte buffer)) (bytes buffer)
    ∷ row (bytes (not_bytes whole byte (replicate 7 0xAA))) (bytes (replicate 7 0xAA))
    ∷ row (bytes (select_bytes whole byte whole byte shorter byte buffer)) (bytes buffer)
    ∷ row (bytes (select_constant_bytes whole byte shorter byte true buffer)) (bytes buffer)
    ∷ row (bytes (append_bytes (extend_constant 65 true) new_builder buffer)) (bytes buffer)
    ∷ row (bytes (freeze_bytes (builder_of 1 2 0) buffer)) (bytes buffer)
    ∷ row (bytes (positions_over (true_at 2 7 0 true) byte (9 ∷ 9 ∷ []))) (bytes (9 ∷ 9 ∷ []))
    ∷ []

-- ---- the aligned split

-- the numbers of a split: the prefix, its length, the byte where the words begin, how many there are, the suffix, its length
abbrev pub split_numbers : Answer (Unit {0}) AlignedBitmapSlice → List ℕ
split_numbers (given s) = s.prefix ∷ s.prefix_len ∷ s.bulk_start ∷ s.bulk_len ∷ s.suffix ∷ s.suffix_len ∷ []
split_numbers (refused k s) = []

pub record SplitRow : Type 0 where
  pub computed : List ℕ
  pub stated : List ℕ

-- a row for a span of 17 bytes 0x2D, of n flags starting at `start`, where the first byte has this address remainder
abbrev pub split_row : ℕ → ℕ → ℕ → List ℕ → SplitRow
split_row start n address stated = record { computed = split_numbers (aligned_of (replicate 17 0x2D) start n address); stated = stated }

unfoldable pub split_rows : List SplitRow
split_rows =
    -- A span that fits one word starting at its first byte is all prefix: 64 flags from 0 do, 65 do not, nor do 64 from 1.
    split_row 0 64 0 (0x2D2D2D2D2D2D2D2D ∷ 64 ∷ 0 ∷ 0 ∷ 0 ∷ 0 ∷ [])
    ∷ split_row 0 65 0 (0 ∷ 0 ∷ 0 ∷ 1 ∷ 1 ∷ 1 ∷ [])
    ∷ split_row 1 64 0 (0x1696969696969696 ∷ 63 ∷ 8 ∷ 0 ∷ 1 ∷ 1 ∷ [])
    -- The words begin at the first aligned byte of the span, or a word further if the span begins inside that byte.
    ∷ split_row 3 130 0 (0x05A5A5A5A5A5A5A5 ∷ 61 ∷ 8 ∷ 1 ∷ 0x0D ∷ 5 ∷ [])
    ∷ split_row 8 100 7 (0 ∷ 0 ∷ 1 ∷ 1 ∷ 0xD2D2D2D2D ∷ 36 ∷ [])
    ∷ split_row 4 100 3 (0x2D2D2D2D2 ∷ 36 ∷ 5 ∷ 1 ∷ 0 ∷ 0 ∷ [])
    -- For no flags all is 0, whatever the start and the address.
    ∷ split_row 9 0 8 (0 ∷ 0 ∷ 0 ∷ 0 ∷ 0 ∷ 0 ∷ [])
    ∷ []

-- ---- starts other than 0, second words, unknown counts

unfoldable pub start_rows : List Row
start_rows =
    -- Whole words go after the finished ones. 64 ones, then 64 zeros.
    row (frozen_in 16 (extend_constant 64 true ∷ extend_constant 64 false ∷ [])) (mask (replicate 8 0xFF ++ replicate 8 0) (Some 64))
    -- A slice's count is the known one less the zeros cut off on either side. Flags 2 to 9 of the twelve: 0,0,1,0,1,1,0,1.
    ∷ row (sliced_value (slice_of twelve two_bytes 2 8)) (count (Some 4))
    -- A slice of a mask of unknown count has an unknown count.
    ∷ row (sliced_value (slice_of whole byte 0 4)) (count None)
    -- `slice` recounts if at most 32 flags are cut off, for masks of up to 164 flags. Of 100 flags, 68 and 67.
    ∷ row (sliced_to 68 (mixed 100)) (count (Some 33))
    ∷ row (sliced_to 67 (mixed 100)) (count None)
    ∷ []

-- ---- no shortcut: `and_not`, `or_not` and `not` of all zeros or all ones leave the count unknown

unfoldable pub count_rows : List Row
count_rows =
    row (pair_of_told AndNot 4 (Some 4) 0xF0 None 0xFF) (mask (first 0) None)
    ∷ row (pair_of_told AndNot 4 None 0xFF (Some 0) 0xFF) (mask (first 0) None)
    ∷ row (pair_of_told OrNot 4 (Some 4) 0xF0 (Some 0) 0xFF) (mask (first 0) None)
    ∷ []

-- the statements: the two columns are equal
abbrev pub Hold : List Row → Type 0
Hold rows = map (λ (r : Row). r.computed) rows ≡ map (λ (r : Row). r.stated) rows

pub record EdgesHold : Type 0 where
  pub limits : Hold limit_rows
  pub edges : Hold edge_rows
  pub masks : Hold mask_rows
  pub unwritten : Hold unwritten_rows
  pub splits : map (λ (r : SplitRow). r.computed) split_rows ≡ map (λ (r : SplitRow). r.stated) split_rows
  pub starts : Hold start_rows
  pub counts : Hold count_rows
