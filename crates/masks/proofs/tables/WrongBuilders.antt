-- Wrong answers that the contracts of the builder's calls rule out, two for each call.
--
-- Rows as in `WrongAnswers` of words. An answer is paired with what the lent buffer then holds.
use Rattle.std.specs.Prelude.{ℕ, true, List, [], ◌∷◌, ◌++◌, replicate, Some, None}
use Rattle.words.proofs.tables.WrongAnswers.{Tried}
use Rattle.masks.specs.equations.Answer.{Answer, given, refused}
use Rattle.masks.specs.equations.Appends.{Append, push_flag, extend_constant, push_word, extend_slice, extend_repeated, extend_bitmap}
use Rattle.masks.specs.equations.Appends.{extend_gather}
use Rattle.masks.specs.equations.Appends.{extend_opt_gather, append_answer, append_bytes, change_answer}
use Rattle.masks.specs.Builder.{builder_of, new_builder}
use Rattle.masks.proofs.tables.Examples.{first, lent}
use Rattle.masks.specs.equations.Freeze.{freeze_of, into_opt_validity_of, freeze_bytes}
use Rattle.masks.specs.Mask.{mask_of}
use Rattle.masks.proofs.tables.WrongSpans.{two}
use Rattle.masks.specs.declared.builder.BitmapBuilder.{BitmapBuilder}

-- an append to a builder over a buffer: the answer, and the buffer after it
abbrev pub appending : Append → BitmapBuilder → List ℕ → Answer BitmapBuilder BitmapBuilder × List ℕ
appending a b buf = (append_answer a b buf, append_bytes a b buf)

-- the answer of an append of less than a word to a new builder: n flags in this word, and eight lent bytes that are unchanged
abbrev pub in_word : ℕ → ℕ → Answer BitmapBuilder BitmapBuilder × List ℕ
in_word n word = (given (builder_of n word 0), lent 8)

-- the answer of a call that freezes over eight lent bytes, and these after it
abbrev pub freezing : {A : Type 0} → (BitmapBuilder → List ℕ → Answer BitmapBuilder A) → BitmapBuilder → Answer BitmapBuilder A × List ℕ
freezing call b = (call b (lent 8), freeze_bytes b (lent 8))

pub record WrongBuilders : Type 0 where
  -- `BitmapBuilder::new`
  pub new : Tried new_builder
      (builder_of 0 0 0)
      -- a flag counted
      (builder_of 1 0 0)
      -- a bit in the word
      (builder_of 0 1 0)
  -- `BitmapBuilder::push` of the flag that finishes a word
  pub push : Tried (appending (push_flag true) (builder_of 63 5 0) (lent 8))
      (given (builder_of 64 0 3), (5 ∷ replicate 6 0) ++ (0x80 ∷ []))
      -- the ones of the finished word not added
      (given (builder_of 64 0 0), (5 ∷ replicate 6 0) ++ (0x80 ∷ []))
      -- the finished word not written
      (given (builder_of 64 0 3), lent 8)
  -- `BitmapBuilder::push_mut` with seven bytes to write to
  pub push_mut : Tried (appending (push_flag true) new_builder (lent 7))
      (change_answer 9 new_builder, lent 7)
      -- refused, and the record changed
      (change_answer 9 (builder_of 1 1 0), lent 7)
      -- refused, and a byte written
      (change_answer 9 new_builder, 1 ∷ lent 6)
  -- `BitmapBuilder::extend_constant` of 65 ones
  pub extend_constant : Tried (appending (extend_constant 65 true) new_builder (lent 16))
      (given (builder_of 65 1 64), replicate 8 0xFF ++ lent 8)
      -- ones of the word in progress counted as finished
      (given (builder_of 65 1 65), replicate 8 0xFF ++ lent 8)
      -- the word in progress written too
      (given (builder_of 65 1 64), replicate 8 0xFF ++ first 1)
  -- `BitmapBuilder::push_word_with_len_unchecked` of 3 flags of the word 0xFF
  pub push-word : Tried (appending (push_word 0xFF 3) new_builder (lent 8))
      (refused 6 new_builder, lent 8)
      -- bits past the length cut off
      (in_word 3 7)
      -- bits past the length kept
      (in_word 3 0xFF)
  -- `BitmapBuilder::extend_from_slice` of 9 flags starting at flag 3
  pub extend_from_slice : Tried (appending (extend_slice two 3 9) new_builder (lent 8))
      (in_word 9 5)
      -- flags past the end kept
      (in_word 9 0x1E05)
      -- the start ignored
      (in_word 9 0x2D)
  -- `BitmapBuilder::extend_each_repeated_from_slice_unchecked` of the flags 1,1,0, twice
  pub extend-repeated : Tried (appending (extend_repeated two 2 3 2) new_builder (lent 8))
      (in_word 6 0xF)
      -- the whole repeated, not each flag
      (in_word 6 0x1B)
      -- once too often
      (in_word 9 0x3F)
  -- `BitmapBuilder::subslice_extend_from_bitmap` of 3 flags starting at flag 1 of a mask that begins at flag 2
  pub subslice_extend : Tried (appending (extend_bitmap (mask_of 2 6 None) two 1 3) new_builder (lent 8))
      (in_word 3 5)
      -- the mask's start not added
      (in_word 3 6)
      -- the piece's start not added
      (in_word 3 3)
  -- `BitmapBuilder::gather_extend_from_slice` of the indices 5,6,0 of six flags
  pub gather : Tried (appending (extend_gather two 0 6 (5 ∷ 6 ∷ 0 ∷ [])) new_builder (lent 8))
      (refused 6 new_builder, lent 8)
      -- 0 for the index past the end
      (in_word 3 5)
      -- refused, and the flag before it appended
      (refused 6 (builder_of 1 1 0), lent 8)
  -- `BitmapBuilder::opt_gather_extend_from_slice` of the indices 2,9,0 of nine flags starting at flag 3
  pub opt_gather : Tried (appending (extend_opt_gather two 3 9 (2 ∷ 9 ∷ 0 ∷ [])) new_builder (lent 8))
      (in_word 3 5)
      -- the flag after the span read
      (in_word 3 7)
      -- the index past the end left out
      (in_word 2 3)
  -- `BitmapBuilder::freeze` of the flags 1,0,1
  pub freeze : Tried (freezing freeze_of (builder_of 3 5 0))
      (given (mask_of 0 3 (Some 1)), first 5)
      -- bytes after the flags left unchanged
      (given (mask_of 0 3 (Some 1)), 5 ∷ lent 7)
      -- ones counted as zeros
      (given (mask_of 0 3 (Some 2)), first 5)
  -- `BitmapBuilder::into_opt_validity` of three ones
  pub into-opt-validity : Tried (freezing into_opt_validity_of (builder_of 3 7 0))
      (given None, first 7)
      -- a mask of ones
      (given (Some (mask_of 0 3 (Some 0))), first 7)
      -- no byte written
      (given None, lent 8)
