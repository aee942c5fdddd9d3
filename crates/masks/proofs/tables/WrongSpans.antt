-- Wrong answers that the contracts of the calls over bare spans rule out, two for each call.
--
-- Rows as in `WrongAnswers` of words: a call's definition at one input, its value, and two answers of a faulty call.
use Rattle.std.specs.Prelude.{ℕ, true, false, List, [], ◌∷◌, ◌++◌, replicate, Some, None}
use Rattle.words.specs.Ends.{leading, trailing}
use Rattle.words.specs.Loops.{stretch}
use Rattle.words.proofs.tables.WrongAnswers.{Tried}
use Rattle.masks.specs.equations.Aligned.{aligned_of}
use Rattle.masks.specs.equations.Answer.{given, refused}
use Rattle.masks.specs.Bitmask.{span_of}
use Rattle.masks.specs.equations.Bitmask.{window_at}
use Rattle.masks.specs.equations.Bitmask.{split_at}
use Rattle.masks.specs.Chunks.{chunks_at}
use Rattle.masks.specs.equations.Chunks.{new_chunks, next_chunk, chunks_remainder}
use Rattle.masks.specs.Cursor.{item}
use Rattle.masks.specs.equations.Search.{search_from, search_back}
use Rattle.masks.specs.Utils.{zeros}
use Rattle.masks.specs.equations.Utils.{span_count}
use Rattle.masks.specs.declared.aligned.AlignedBitmapSlice.{AlignedBitmapSlice}

-- the flags 1,0,1,1,0,1,0,0 and 0,0,0,0,1,1,1,1
abbrev pub two : List ℕ
two = 0x2D ∷ 0xF0 ∷ []

-- the flags 1,0,1,1,0,1,0,0, then 56 zeros, then 1,0,1,1,1,1,1,1
abbrev pub nine : List ℕ
nine = (0x2D ∷ replicate 7 0) ++ (0xFD ∷ [])

abbrev pub parts_of : ℕ → ℕ → ℕ → ℕ → ℕ → ℕ → AlignedBitmapSlice
parts_of p pn b bn s sn =
    record { prefix = p; prefix_len = pn; bulk_start = b; bulk_len = bn; suffix = s; suffix_len = sn }

pub record WrongSpans : Type 0 where
  -- `AlignedBitmapSlice::new` of 100 flags at remainder 4
  pub aligned-new : Tried (aligned_of (replicate 13 0x2D) 0 100 4)
      (given (parts_of 0x2D2D2D2D 32 4 1 0xD 4))
      -- the address ignored
      (given (parts_of 0 0 0 1 0xD2D2D2D2D 36))
      -- flags past the end kept in the suffix
      (given (parts_of 0x2D2D2D2D 32 4 1 0x2D 4))
  -- `count_zeros` of 9 flags starting at flag 3
  pub count_zeros : Tried (span_count two 3 9 0 (zeros (stretch two 3 9)))
      (given 7)
      -- the last flag not read
      (given 6)
      -- counted from the byte's first flag
      (given 5)
  -- `count_zeros` of no flags, start and address out of range
  pub count-zeros-of-none : Tried (span_count two 99 0 9 (zeros (stretch two 99 0)))
      (given 0)
      -- the span checked before the length is looked at
      (refused 2 tt)
      -- the address checked before the length is looked at
      (refused 8 tt)
  -- `leading_zeros` of 8 flags starting at flag 6
  pub leading_zeros : Tried (span_count two 6 8 0 (leading false (stretch two 6 8)))
      (given 6)
      -- stopped at the byte's end
      (given 2)
      -- the length, as if no flag were set
      (given 8)
  -- `leading_ones` of 10 flags starting at flag 2
  pub leading_ones : Tried (span_count two 2 10 0 (leading true (stretch two 2 10)))
      (given 2)
      -- ones after a zero counted
      (given 3)
      -- counted from the byte's first flag
      (given 1)
  -- `trailing_zeros` of 12 flags
  pub trailing_zeros : Tried (span_count two 0 12 0 (trailing false (stretch two 0 12)))
      (given 6)
      -- flags past the end read
      (given 0)
      -- stopped at the byte's beginning
      (given 4)
  -- `trailing_ones` of 2 flags, of which one lies past the bytes, at remainder 8
  pub trailing_ones : Tried (span_count two 15 2 8 (trailing true (stretch two 15 2)))
      (refused 2 tt)
      -- the address checked first
      (refused 8 tt)
      -- only the flags inside the bytes counted
      (given 1)
  -- `BitChunks::new` of 9 flags starting at flag 3
  pub chunks-new : Tried (new_chunks two 3 9)
      (given (chunks_at 3 9 0))
      -- the start lost
      (given (chunks_at 0 9 0))
      -- the place set to the start bit
      (given (chunks_at 3 9 3))
  -- `BitChunksExact::new` of 17 flags in two bytes
  pub chunks-new-exact : Tried (new_chunks two 0 17)
      (refused 2 tt)
      -- the bytes not checked
      (given (chunks_at 0 17 0))
      -- the length cut to the flags of the bytes
      (given (chunks_at 0 16 0))
  -- `BitChunks::next` of 64 flags starting at flag 1
  pub chunks-next : Tried (next_chunk (chunks_at 1 64 0) nine)
      (given (item 0x8000000000000016 (chunks_at 1 64 1)))
      -- the ninth byte not read
      (given (item 0x16 (chunks_at 1 64 1)))
      -- the cursor not moved
      (given (item 0x8000000000000016 (chunks_at 1 64 0)))
  -- `BitChunks::remainder` of 68 flags
  pub chunks-remainder : Tried (chunks_remainder (chunks_at 0 68 0) nine)
      (given (0xD, 4))
      -- flags past the end kept
      (given (0xFD, 4))
      -- a whole byte returned
      (given (0xFD, 8))
  -- `split_at_unchecked` of 9 flags starting at flag 3, at 4
  pub split_at_unchecked : Tried (split_at two 3 9 4)
      (given (span_of 3 4, span_of 7 5))
      -- the start not added
      (given (span_of 3 4, span_of 4 5))
      -- the second length not reduced
      (given (span_of 3 4, span_of 7 9))
  -- `get_u32` at index 2 of 9 flags starting at flag 3
  pub get_u32 : Tried (window_at two 3 9 2)
      (given 1)
      -- flags past the end kept
      (given 0x781)
      -- the index not added
      (given 5)
  -- `nth_set_bit_idx` of 12 flags, n 2 from 1
  pub nth_set_bit_idx : Tried (search_from two 0 12 2 1)
      (given (Some 5))
      -- n counted from 1
      (given (Some 3))
      -- the position counted from where the search begins
      (given (Some 4))
  -- `nth_set_bit_idx_rev` of 12 flags, n 1 below 900
  pub nth_set_bit_idx_rev : Tried (search_back two 0 12 1 900)
      (given (Some 3))
      -- none below an end past the length
      (given None)
      -- flags past the end read
      (given (Some 14))
