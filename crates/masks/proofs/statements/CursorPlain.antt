-- Where a call leaves its cursor, in plain words, for every call on a cursor.
--
-- Each line is about a call that was accepted: a new cursor is at place 0; an item moves the place just past it; an answer of none moves it
-- to the length, for chunks not at all. Start, length and `masked` are unchanged. `Refusals` states that a refused call returns the cursor
-- that was passed to it.
use Rattle.std.specs.Prelude.{ℕ, suc, ◌+◌, ◌/◌, ◌≤◌, ◌<◌, ◌≡◌, Bool, true, false, not, List, length, get_or, Some, None}
use Rattle.words.specs.Flags.{flag_at}
use Rattle.masks.specs.equations.Answer.{given}
use Rattle.masks.specs.Chunks.{chunks_at}
use Rattle.masks.specs.equations.Chunks.{new_chunks, next_chunk}
use Rattle.masks.specs.Cursor.{item, ended}
use Rattle.masks.specs.Iterator.{iter_at}
use Rattle.masks.specs.equations.Iterator.{new_iter, nth_flag, take_leading}
use Rattle.masks.specs.Positions.{left_of}
use Rattle.masks.specs.equations.Positions.{next_positions}
use Rattle.masks.specs.SliceIterator.{slices_at}
use Rattle.masks.specs.equations.SliceIterator.{new_slices, next_slice}
use Rattle.masks.specs.TrueIdx.{true_at}
use Rattle.masks.specs.equations.TrueIdx.{new_true, next_true}
use Rattle.masks.specs.declared.bitmap.Bitmap.{Bitmap}
use Rattle.masks.specs.declared.chunks.BitChunks.{BitChunks}
use Rattle.masks.specs.declared.iterator.BitmapIter.{BitmapIter}
use Rattle.masks.specs.declared.slice_iterator.Run.{Run}
use Rattle.masks.specs.declared.slice_iterator.SlicesIterator.{SlicesIterator}
use Rattle.masks.specs.declared.true_idx.TrueIdxIter.{TrueIdxIter}

-- new cursors; `BitmapIter::new` of no flags is a cursor that is all 0
pub record NewPlaces : Type 0 where
  pub chunks : (bytes : List ℕ) (start n : ℕ) (c : BitChunks) → given c ≡ new_chunks bytes start n → c ≡ chunks_at start n 0
  pub flags-none : (bytes : List ℕ) (start : ℕ) (c : BitmapIter) → given c ≡ new_iter bytes start 0 → c ≡ iter_at 0 0 0
  pub flags : (bytes : List ℕ) (start n : ℕ) (c : BitmapIter) → given c ≡ new_iter bytes start (suc n) → c ≡ iter_at start (suc n) 0
  pub runs : (m : Bitmap) (bytes : List ℕ) (c : SlicesIterator) → given c ≡ new_slices m bytes → c ≡ slices_at m.start m.length 0
  pub ones : (n : ℕ) (m : Bitmap) (bytes : List ℕ) (c : TrueIdxIter) → given c ≡ new_true n (Some m) bytes → c ≡ true_at m.start n 0 true
  pub every : (n : ℕ) (bytes : List ℕ) (c : TrueIdxIter) → given c ≡ new_true n None bytes → c ≡ true_at 0 n 0 false

-- `BitChunks::next`: places count words, and there is no word at floor(length / 64) and above
pub record ChunkPlaces (c : BitChunks) (bytes : List ℕ) (d : BitChunks) : Type 0 where
  pub moved : (w : ℕ) → given (item w d) ≡ next_chunk c bytes → (c.place < c.length / 64) × (d ≡ chunks_at c.start c.length (c.place + 1))
  pub stays : given (ended d) ≡ next_chunk c bytes → (c.length / 64 ≤ c.place) × (d ≡ c)

-- `BitmapIter::next` (k is 0), `nth`; `take_leading_ones`, `take_leading_zeros`
pub record FlagPlaces (c : BitmapIter) (bytes : List ℕ) (d : BitmapIter) : Type 0 where
  pub moved : (k : ℕ) (x : Bool) → given (item x d) ≡ nth_flag c bytes k
      → (c.place + k < c.length) × ((x ≡ flag_at bytes (c.start + (c.place + k))) × (d ≡ iter_at c.start c.length (c.place + k + 1)))
  pub at-end : (k : ℕ) → given (ended d) ≡ nth_flag c bytes k → (c.length ≤ c.place + k) × (d ≡ iter_at c.start c.length c.length)
  pub taken : (x : Bool) (k : ℕ) → given (k, d) ≡ take_leading x c bytes → d ≡ iter_at c.start c.length (c.place + k)
  -- exactly k flags in a row at the place equal x: they end at the length, or before a flag of the other kind
  pub inside : (x : Bool) (k : ℕ) → given (k, d) ≡ take_leading x c bytes → c.place + k ≤ c.length
  pub alike : (x : Bool) (k j : ℕ) → given (k, d) ≡ take_leading x c bytes → j < k → flag_at bytes (c.start + (c.place + j)) ≡ x
  pub stops : (x : Bool) (k : ℕ) → given (k, d) ≡ take_leading x c bytes → c.place + k < c.length
      → flag_at bytes (c.start + (c.place + k)) ≡ not x

-- `SlicesIterator::next`
pub record RunPlaces (c : SlicesIterator) (bytes : List ℕ) (d : SlicesIterator) : Type 0 where
  pub moved : (r : Run) → given (item r d) ≡ next_slice c bytes → d ≡ slices_at c.start c.length (r.start + r.length)
  pub at-end : given (ended d) ≡ next_slice c bytes → d ≡ slices_at c.start c.length c.length

-- `TrueIdxIter::next`, `next_chunk`: the last position returned, of those that the cursor has left, fixes the new place
pub record OnePlaces (c : TrueIdxIter) (bytes : List ℕ) (d : TrueIdxIter) : Type 0 where
  pub moved : (p : ℕ) → given (item p d) ≡ next_true c bytes → d ≡ true_at c.start c.length (p + 1) c.masked
  pub at-end : given (ended d) ≡ next_true c bytes → d ≡ true_at c.start c.length c.length c.masked
  pub none-asked : (n : ℕ) → given (n, d) ≡ next_positions c bytes 0 → (n ≡ 0) × (d ≡ c)
  pub all-given : (n k : ℕ) → given (n, d) ≡ next_positions c bytes (suc k) → k < length (left_of c bytes)
      → (n ≡ suc k) × (d ≡ true_at c.start c.length (get_or (left_of c bytes) k 0 + 1) c.masked)
  pub fewer : (n k : ℕ) → given (n, d) ≡ next_positions c bytes (suc k) → length (left_of c bytes) ≤ k
      → (n ≡ length (left_of c bytes)) × (d ≡ true_at c.start c.length c.length c.masked)

-- the statement
pub record CursorsPlainly : Type 0 where
  pub new : NewPlaces
  pub chunks : (c : BitChunks) (bytes : List ℕ) (d : BitChunks) → ChunkPlaces c bytes d
  pub flags : (c : BitmapIter) (bytes : List ℕ) (d : BitmapIter) → FlagPlaces c bytes d
  pub runs : (c : SlicesIterator) (bytes : List ℕ) (d : SlicesIterator) → RunPlaces c bytes d
  pub ones : (c : TrueIdxIter) (bytes : List ℕ) (d : TrueIdxIter) → OnePlaces c bytes d
