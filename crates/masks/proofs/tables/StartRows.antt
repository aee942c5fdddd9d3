-- Cursors, windows and searches over spans that do not begin at the first flag of their bytes, and at places past the first word or the
-- first run.
--
-- A row has the numbers of a call's answer, through the definition that its contract cites, and those of the reference's words there,
-- worked out by hand. `proofs/computed/StartRows.antt` proves that the columns are equal.
use Rattle.std.specs.Prelude.{ℕ, ◌≡◌, true, false, List, [], ◌∷◌, ◌++◌, map, replicate, Option, Some, None}
use Rattle.words.specs.Flags.{digit}
use Rattle.masks.specs.equations.Answer.{Answer, given, refused}
use Rattle.masks.specs.equations.Bitmask.{window_at}
use Rattle.masks.specs.equations.Bitmask.{split_at}
use Rattle.masks.specs.Chunks.{chunks_at}
use Rattle.masks.specs.equations.Chunks.{next_chunk, chunks_remainder}
use Rattle.masks.specs.Cursor.{Step, item, ended}
use Rattle.masks.proofs.tables.EdgeRows.{SplitRow, two_bytes, twelve}
use Rattle.masks.specs.Iterator.{iter_at}
use Rattle.masks.specs.equations.Iterator.{nth_flag, take_leading}
use Rattle.masks.specs.equations.Mask.{slice_of}
use Rattle.masks.specs.equations.Positions.{next_positions, positions_over}
use Rattle.masks.specs.equations.Search.{search_from, search_back}
use Rattle.masks.specs.SliceIterator.{slices_at}
use Rattle.masks.specs.equations.SliceIterator.{new_slices, next_slice}
use Rattle.masks.specs.TrueIdx.{true_at}
use Rattle.masks.specs.equations.TrueIdx.{new_true, next_true}
use Rattle.masks.specs.declared.bitmap.Bitmap.{Bitmap}
use Rattle.masks.specs.declared.bitmask.Span.{Span}
use Rattle.masks.specs.declared.chunks.BitChunks.{BitChunks}
use Rattle.masks.specs.declared.iterator.BitmapIter.{BitmapIter}
use Rattle.masks.specs.declared.slice_iterator.Run.{Run}
use Rattle.masks.specs.declared.slice_iterator.SlicesIterator.{SlicesIterator}
use Rattle.masks.specs.declared.true_idx.TrueIdxIter.{TrueIdxIter}

abbrev pub numbers : List ℕ → List ℕ → SplitRow
numbers computed stated = record { computed = computed; stated = stated }

-- ---- answers as numbers

-- the item's number, then the cursor's numbers; only the cursor's if there is no item
abbrev pub stepped : {C A : Type 0} → (C → List ℕ) → (A → ℕ) → Answer C (Step C A) → List ℕ
stepped cursor value (given (item a c)) = value a ∷ cursor c
stepped cursor value (given (ended c)) = cursor c
stepped cursor value (refused k c) = []

abbrev pub chunks_numbers : BitChunks → List ℕ
chunks_numbers c = c.start ∷ c.length ∷ c.place ∷ []

abbrev pub iter_numbers : BitmapIter → List ℕ
iter_numbers c = c.start ∷ c.length ∷ c.place ∷ []

abbrev pub slices_numbers : SlicesIterator → List ℕ
slices_numbers c = c.start ∷ c.length ∷ c.place ∷ []

abbrev pub true_numbers : TrueIdxIter → List ℕ
true_numbers c = c.start ∷ c.length ∷ c.place ∷ digit c.masked ∷ []

abbrev pub made : {C : Type 0} → (C → List ℕ) → Answer (Unit {0}) C → List ℕ
made cursor (given c) = cursor c
made cursor (refused k s) = []

abbrev pub paired : {C : Type 0} → (C → List ℕ) → Answer C (ℕ × C) → List ℕ
paired cursor (given p) = p.0 ∷ cursor p.1
paired cursor (refused k c) = []

abbrev pub remaining : Answer BitChunks (ℕ × ℕ) → List ℕ
remaining (given p) = p.0 ∷ p.1 ∷ []
remaining (refused k c) = []

abbrev pub placed : Answer (Unit {0}) (Option ℕ) → List ℕ
placed (given (Some p)) = p ∷ []
placed (given None) = []
placed (refused k s) = k ∷ k ∷ []

abbrev pub cut : Answer Bitmap Bitmap → List ℕ
cut (given m) = m.start ∷ m.length ∷ []
cut (refused k m) = []

abbrev pub part_numbers : Answer (Unit {0}) (Span × Span) → List ℕ
part_numbers (given p) = p.0.start ∷ p.0.length ∷ p.1.start ∷ p.1.length ∷ []
part_numbers (refused k s) = []

abbrev pub single : Answer (Unit {0}) ℕ → List ℕ
single (given n) = n ∷ []
single (refused k s) = []

-- ---- the table: `twelve` has the flags 0,0,0,0,1,0,1,1,0,1,0,0; 17 bytes 0x2D have 1,0,1,1,0,1,0,0 again and again

abbrev pub many : List ℕ
many = replicate 17 0x2D

-- 72 flags, the last four 1,0,0,1
abbrev pub uneven : List ℕ
uneven = 0x0F ∷ (replicate 7 0x2D ++ (0x90 ∷ []))

unfoldable pub start_rows : List SplitRow
start_rows =
    -- flags
    numbers (stepped iter_numbers digit (nth_flag (iter_at 4 12 1) two_bytes 3)) (1 ∷ 4 ∷ 12 ∷ 5 ∷ [])
    ∷ numbers (stepped iter_numbers digit (nth_flag (iter_at 4 12 10) two_bytes 2)) (4 ∷ 12 ∷ 12 ∷ [])
    ∷ numbers (paired iter_numbers (take_leading false (iter_at 4 12 1) two_bytes)) (3 ∷ 4 ∷ 12 ∷ 4 ∷ [])
    ∷ numbers (paired iter_numbers (take_leading true (iter_at 4 12 6) two_bytes)) (2 ∷ 4 ∷ 12 ∷ 8 ∷ [])
    -- runs
    ∷ numbers (made slices_numbers (new_slices twelve two_bytes)) (4 ∷ 12 ∷ 0 ∷ [])
    ∷ numbers (stepped slices_numbers (λ (r : Run). r.start) (next_slice (slices_at 4 12 5) two_bytes)) (6 ∷ 4 ∷ 12 ∷ 8 ∷ [])
    ∷ numbers (stepped slices_numbers (λ (r : Run). r.length) (next_slice (slices_at 4 12 5) two_bytes)) (2 ∷ 4 ∷ 12 ∷ 8 ∷ [])
    ∷ numbers (stepped slices_numbers (λ (r : Run). r.length) (next_slice (slices_at 4 12 10) two_bytes)) (4 ∷ 12 ∷ 12 ∷ [])
    -- ones
    ∷ numbers (made true_numbers (new_true 12 (Some twelve) two_bytes)) (4 ∷ 12 ∷ 0 ∷ 1 ∷ [])
    ∷ numbers (made true_numbers (new_true 12 None [])) (0 ∷ 12 ∷ 0 ∷ 0 ∷ [])
    ∷ numbers (stepped true_numbers (λ (p : ℕ). p) (next_true (true_at 4 12 5 true) two_bytes)) (6 ∷ 4 ∷ 12 ∷ 7 ∷ 1 ∷ [])
    ∷ numbers (stepped true_numbers (λ (p : ℕ). p) (next_true (true_at 0 12 5 false) [])) (5 ∷ 0 ∷ 12 ∷ 6 ∷ 0 ∷ [])
    ∷ numbers (stepped true_numbers (λ (p : ℕ). p) (next_true (true_at 4 12 10 true) two_bytes)) (4 ∷ 12 ∷ 12 ∷ 1 ∷ [])
    ∷ numbers (positions_over (true_at 4 12 5 true) two_bytes (99 ∷ 99 ∷ 99 ∷ 99 ∷ [])) (6 ∷ 7 ∷ 9 ∷ 99 ∷ [])
    ∷ numbers (paired true_numbers (next_positions (true_at 4 12 5 true) two_bytes 2)) (2 ∷ 4 ∷ 12 ∷ 8 ∷ 1 ∷ [])
    ∷ numbers (paired true_numbers (next_positions (true_at 4 12 5 true) two_bytes 4)) (3 ∷ 4 ∷ 12 ∷ 12 ∷ 1 ∷ [])
    ∷ numbers (paired true_numbers (next_positions (true_at 4 12 5 true) two_bytes 0)) (0 ∷ 4 ∷ 12 ∷ 5 ∷ 1 ∷ [])
    -- words: the second of 130 flags starting at 4, the end after it, and the two flags that are left, 0 and 1
    ∷ numbers (stepped chunks_numbers (λ (w : ℕ). w) (next_chunk (chunks_at 4 130 1) many)) (0xD2D2D2D2D2D2D2D2 ∷ 4 ∷ 130 ∷ 2 ∷ [])
    ∷ numbers (stepped chunks_numbers (λ (w : ℕ). w) (next_chunk (chunks_at 4 130 2) many)) (4 ∷ 130 ∷ 2 ∷ [])
    ∷ numbers (remaining (chunks_remainder (chunks_at 4 130 0) many)) (2 ∷ 2 ∷ [])
    ∷ numbers (remaining (chunks_remainder (chunks_at 4 68 0) uneven)) (9 ∷ 4 ∷ [])
    -- a slice begins in its bytes at the mask's start plus the offset
    ∷ numbers (cut (slice_of twelve two_bytes 2 8)) (6 ∷ 8 ∷ [])
    -- windows, splits and searches
    ∷ numbers (single (window_at two_bytes 4 12 2)) (0xB4 ∷ [])
    ∷ numbers (single (window_at many 4 130 0)) (0xD2D2D2D2 ∷ [])
    ∷ numbers (part_numbers (split_at two_bytes 4 12 5)) (4 ∷ 5 ∷ 9 ∷ 7 ∷ [])
    ∷ numbers (placed (search_from two_bytes 4 12 1 5)) (7 ∷ [])
    ∷ numbers (placed (search_from two_bytes 4 12 3 5)) []
    ∷ numbers (placed (search_back two_bytes 4 12 1 7)) (4 ∷ [])
    ∷ numbers (placed (search_back two_bytes 4 12 2 7)) []
    ∷ []

-- the statement: in every row the numbers of the definitions are those of the reference's words
abbrev pub StartsHold : Type 0
StartsHold = map (λ (r : SplitRow). r.computed) start_rows ≡ map (λ (r : SplitRow). r.stated) start_rows
