-- Wrong answers that the contracts of the cursors' calls rule out, two for each call.
--
-- Rows as in `WrongAnswers` of words.
use Rattle.std.specs.Prelude.{ℕ, true, false, List, [], ◌∷◌, length, None}
use Rattle.words.proofs.tables.WrongAnswers.{Tried}
use Rattle.masks.specs.equations.Answer.{Answer, given, refused}
use Rattle.masks.specs.Cursor.{item, ended}
use Rattle.masks.specs.Iterator.{iter_at}
use Rattle.masks.specs.equations.Iterator.{new_iter, nth_flag, take_leading}
use Rattle.masks.specs.Mask.{mask_of}
use Rattle.masks.specs.equations.Positions.{next_positions, positions_over}
use Rattle.masks.specs.SliceIterator.{slices_at, run_of}
use Rattle.masks.specs.equations.SliceIterator.{new_slices, next_slice}
use Rattle.masks.specs.TrueIdx.{true_at}
use Rattle.masks.specs.equations.TrueIdx.{new_true, next_true}
use Rattle.masks.proofs.tables.WrongSpans.{two}
use Rattle.masks.specs.declared.true_idx.TrueIdxIter.{TrueIdxIter}

-- four zeros, eight ones, four zeros
abbrev pub across : List ℕ
across = 0xF0 ∷ 0x0F ∷ []

-- the answer of `TrueIdxIter::next_chunk`, and what the output then holds
abbrev pub positions_told : Answer TrueIdxIter (ℕ × TrueIdxIter) → List ℕ → Answer TrueIdxIter (ℕ × TrueIdxIter) × List ℕ
positions_told a out = (a, out)

abbrev pub positions_into : TrueIdxIter → List ℕ → List ℕ → Answer TrueIdxIter (ℕ × TrueIdxIter) × List ℕ
positions_into c bytes out = positions_told (next_positions c bytes (length out)) (positions_over c bytes out)

pub record WrongCursors : Type 0 where
  -- `SlicesIterator::new` of 9 flags starting at flag 4, the first of them a zero
  pub slices-new : Tried (new_slices (mask_of 4 9 None) two)
      (given (slices_at 4 9 0))
      -- the start lost
      (given (slices_at 0 9 0))
      -- the place at the first run
      (given (slices_at 4 9 1))
  -- `SlicesIterator::next` before a run over a byte's end
  pub slices-next : Tried (next_slice (slices_at 0 16 0) across)
      (given (item (run_of 4 8) (slices_at 0 16 12)))
      -- stopped at the byte's end
      (given (item (run_of 4 4) (slices_at 0 16 8)))
      -- the run's end returned as its length
      (given (item (run_of 4 12) (slices_at 0 16 12)))
  -- `BitmapIter::new` of no flags at a start past the bytes
  pub iter-new : Tried (new_iter two 99 0)
      (given (iter_at 0 0 0))
      -- the start kept
      (given (iter_at 99 0 0))
      -- the bytes checked before the length is looked at
      (refused 2 tt)
  -- `BitmapIter::next` at place 3 of 9 flags starting at flag 3
  pub iter-next : Tried (nth_flag (iter_at 3 9 3) two 0)
      (given (item false (iter_at 3 9 4)))
      -- the start not added
      (given (item true (iter_at 3 9 4)))
      -- the cursor not moved
      (given (item false (iter_at 3 9 3)))
  -- `BitmapIter::nth` at place 2 of 9 flags starting at flag 3, n 7
  pub iter-nth : Tried (nth_flag (iter_at 3 9 2) two 7)
      (given (ended (iter_at 3 9 9)))
      -- none, and the cursor not moved
      (given (ended (iter_at 3 9 2)))
      -- the flag past the end returned
      (given (item true (iter_at 3 9 10)))
  -- `BitmapIter::take_leading_ones` at place 2
  pub take_leading_ones : Tried (take_leading true (iter_at 0 16 2) two)
      (given (2, iter_at 0 16 4))
      -- the zero after them passed over
      (given (2, iter_at 0 16 5))
      -- the place returned as the number
      (given (4, iter_at 0 16 4))
  -- `BitmapIter::take_leading_zeros` at place 6
  pub take_leading_zeros : Tried (take_leading false (iter_at 0 16 6) two)
      (given (6, iter_at 0 16 12))
      -- stopped at the byte's end
      (given (2, iter_at 0 16 8))
      -- the cursor not moved
      (given (6, iter_at 0 16 6))
  -- `TrueIdxIter::new` of 8 flags with no mask and no bytes
  pub true-new : Tried (new_true 8 None [])
      (given (true_at 0 8 0 false))
      -- marked as with a mask
      (given (true_at 0 8 0 true))
      -- the bytes checked
      (refused 2 tt)
  -- `TrueIdxIter::next` at place 1 of 9 flags starting at flag 3
  pub true-next : Tried (next_true (true_at 3 9 1 true) two)
      (given (item 2 (true_at 3 9 3 true)))
      -- the position counted from the bytes' first flag
      (given (item 5 (true_at 3 9 3 true)))
      -- the cursor one too far
      (given (item 2 (true_at 3 9 4 true)))
  -- `TrueIdxIter::next` at a place past the end
  pub true-next-refused : Tried (next_true (true_at 3 9 10 true) two)
      (refused 6 (true_at 3 9 10 true))
      -- accepted, with no position
      (given (ended (true_at 3 9 9 true)))
      -- refused, and the cursor moved
      (refused 6 (true_at 3 9 9 true))
  -- `TrueIdxIter::next_chunk` with room for 3, at place 1 of 14 flags starting at flag 2
  pub true-chunk : Tried (positions_into (true_at 2 14 1 true) two (9 ∷ 9 ∷ 9 ∷ []))
      (positions_told (given (3, true_at 2 14 11 true)) (1 ∷ 3 ∷ 10 ∷ []))
      -- the positions counted from the bytes' first flag
      (positions_told (given (3, true_at 2 14 11 true)) (3 ∷ 5 ∷ 12 ∷ []))
      -- the cursor at the length
      (positions_told (given (3, true_at 2 14 14 true)) (1 ∷ 3 ∷ 10 ∷ []))
  -- `TrueIdxIter::next_chunk` with more room than ones
  pub true-chunk-rest : Tried (positions_into (true_at 2 14 11 true) two (9 ∷ 9 ∷ 9 ∷ 9 ∷ []))
      (positions_told (given (3, true_at 2 14 14 true)) (11 ∷ 12 ∷ 13 ∷ 9 ∷ []))
      -- the rest of the output cleared
      (positions_told (given (3, true_at 2 14 14 true)) (11 ∷ 12 ∷ 13 ∷ 0 ∷ []))
      -- the room returned as the count
      (positions_told (given (4, true_at 2 14 14 true)) (11 ∷ 12 ∷ 13 ∷ 9 ∷ []))
