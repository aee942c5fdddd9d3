-- Wrong answers that the contracts rule out, two for each call of the reference.
--
-- A contract says that an answer equals a definition at the call's arguments. So it rules out every other answer. A row has a call's
-- definition at one input, its value there, and two answers that a faulty function would return, the fault named above each.
-- `proofs/computed/WrongAnswers.antt` proves the rows by computing them.
use Rattle.std.specs.Prelude.{◌≡◌, true, false, [], ◌∷◌, ◌++◌, get_or, replicate, Ok, Err}
use Rattle.words.specs.Changes.{alternating, changes, without_first}
use Rattle.words.specs.Columns.{column}
use Rattle.words.specs.Flags.{bits, flags_of, over, window, word_flags}
use Rattle.words.specs.Loops.{whole_words}
use Rattle.words.specs.Merge.{merged}
use Rattle.words.specs.Nth.{nth_one}
use Rattle.words.specs.Place.{or_at}

-- the value of a definition is the right answer and neither of the wrong ones
pub record Tried {A : Type 0} (answer right first second : A) : Type 0 where
  pub is_right : answer ≡ right
  pub not_first : answer ≡ first → ⊥
  pub not-second : answer ≡ second → ⊥

-- a contract on a word is about its 64 flags
pub record WrongAnswers : Type 0 where
  -- `load_padded_le_u64` of the bytes 0x2D, 0x01
  pub load-padded : Tried (window (flags_of (0x2D ∷ 0x01 ∷ [])) 0 64)
      (word_flags 0x012D)
      -- bytes in the other order
      (word_flags 0x2D01)
      -- absent bytes in front
      (word_flags 0x012D000000000000)
  -- `merge_reversed` of the words 8 and 5 at offset 3
  pub merge_reversed : Tried (merged (word_flags 8) (word_flags 5) 3)
      (word_flags 0xA000000000000001)
      -- the next word left out
      (word_flags 1)
      -- the next word not shifted
      (word_flags 5)
  -- `merge_reversed` of the words 8 and 5 at offset 0
  pub merge-reversed-at_0 : Tried (merged (word_flags 8) (word_flags 5) 0)
      (word_flags 8)
      -- the next word not shifted, instead of shifted by 64
      (word_flags 13)
      -- the next word returned
      (word_flags 5)
  -- `nth_set_bit_u32` of 0x2D, whose bits 0, 2, 3 and 5 are set, with n 2
  pub nth_set_bit_u32 : Tried (nth_one (bits 32 0x2D) 2)
      (Ok 3)
      -- n counted from 1
      (Ok 2)
      -- zeros counted
      (Ok 6)
  -- `nth_set_bit_u32` of 0x2D with n 4
  pub nth-set-bit-u32-missing : Tried (nth_one (bits 32 0x2D) 4)
      (Err 4)
      -- 0 in place of the number
      (Err 0)
      -- the number of zeros
      (Err 28)
  -- `nth_set_bit_u64` of a word with the bits 0 and 40 set, with n 1
  pub nth_set_bit_u64 : Tried (nth_one (bits 64 0x10000000001) 1)
      (Ok 40)
      -- the upper half not read
      (Err 1)
      -- the place in the upper half
      (Ok 8)
  -- `nth_set_bit_u64` of that word with n 2
  pub nth-set-bit-u64-missing : Tried (nth_one (bits 64 0x10000000001) 2)
      (Err 2)
      -- 0 in place of the number
      (Err 0)
      -- the number of zeros
      (Err 62)
  -- `nth_set_bit_u64` of that word with n 7
  pub nth-set-bit-u64-few : Tried (nth_one (bits 64 0x10000000001) 7)
      (Err 2)
      -- n itself
      (Err 7)
      -- the upper half not counted
      (Err 1)
  -- `or_flags` of the word 5 at flag 6 of the bytes 0x81, 0x01
  pub or_flags : Tried (or_at (flags_of (0x81 ∷ 0x01 ∷ [])) 6 (word_flags 5))
      (flags_of (0xC1 ∷ 0x01 ∷ []))
      -- written over: flag 7 is lost
      (flags_of (0x41 ∷ 0x01 ∷ []))
      -- a flag that both have is lost
      (flags_of (0xC1 ∷ 0x00 ∷ []))
  -- `changed_flags` of the word 13, after a word whose last flag is set
  pub changed_flags : Tried (changes (get_or (word_flags 0x8000000000000000) 63 false) (word_flags 13))
      (word_flags 0x16)
      -- the flag before the first taken as 0
      (word_flags 0x17)
      -- compared with the flag after it
      (word_flags 0x0B)
  -- `without_first` of the word 12
  pub without_first : Tried (without_first (word_flags 12))
      (word_flags 8)
      -- the last set flag cleared
      (word_flags 4)
      -- one taken away
      (word_flags 11)
  -- `fill_alternating`: three flags, the first of them 0, over nine bytes
  pub fill_alternating : Tried (over (flags_of (replicate 9 0xFF)) (whole_words (alternating 3 false)))
      (flags_of (0x02 ∷ (replicate 7 0 ++ (0xFF ∷ []))))
      -- the first of them 1
      (flags_of (0x05 ∷ (replicate 7 0 ++ (0xFF ∷ []))))
      -- not padded to a whole word
      (flags_of (0xFA ∷ replicate 8 0xFF))
  -- `transpose_block`: the first flags of row 1, of a block whose first rows are 2, 4, 6 and 0
  pub transpose_block : Tried (column (2 ∷ 4 ∷ 6 ∷ 0 ∷ []) 1)
      (true ∷ false ∷ true ∷ false ∷ [])
      -- the row, not transposed
      (false ∷ false ∷ true ∷ false ∷ [])
      -- the rows in the other order
      (false ∷ true ∷ false ∷ true ∷ [])
