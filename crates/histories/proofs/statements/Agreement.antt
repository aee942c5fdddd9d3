-- The statement that a mask means the same however it was built (docs/THEOREMS.md): what a mask must have in common with a list of flags,
-- which is all that the reference compares with its reference list.
use Rattle.std.specs.Prelude.{ℕ, ◌≤◌, ◌<◌, ◌≡◌, Bool, true, false, cond, List, [], ltb, length, get_or, take, Option, Some, None}
use Rattle.words.specs.Flags.{over}
use Rattle.masks.specs.declared.bitmap.Recounted.{Recounted}
use Rattle.masks.specs.equations.Answer.{Answer, given, refused}
use Rattle.masks.specs.equations.Appends.{Append, append_answer, append_bytes, push_flag, extend_constant, push_word, extend_slice}
use Rattle.masks.specs.equations.Appends.{extend_repeated, extend_bitmap, extend_gather, extend_opt_gather}
use Rattle.masks.specs.Builder.{new_builder}
use Rattle.masks.specs.Checks.{first_failed}
use Rattle.masks.specs.Cursor.{Step, item, ended}
use Rattle.masks.specs.equations.Freeze.{freeze_bytes, freeze_of}
use Rattle.masks.specs.Frozen.{frozen, frozen_size}
use Rattle.masks.specs.equations.Iterator.{new_iter, nth_flag}
use Rattle.masks.proofs.statements.Listing.{listing}
use Rattle.masks.specs.Mask.{mask_checks, mask_flags}
use Rattle.masks.specs.equations.Mask.{unset_bits_of}
use Rattle.masks.specs.Search.{nth_back, nth_from}
use Rattle.masks.specs.equations.Search.{search_back, search_from}
use Rattle.masks.specs.SliceIterator.{runs_from}
use Rattle.masks.specs.equations.SliceIterator.{new_slices, next_slice}
use Rattle.masks.proofs.statements.TrueCounts.{Sound, TrueCount, Truthful}
use Rattle.masks.specs.Utils.{zeros}
use Rattle.masks.specs.declared.bitmap.Bitmap.{Bitmap}
use Rattle.masks.specs.declared.builder.BitmapBuilder.{BitmapBuilder}
use Rattle.masks.specs.declared.iterator.BitmapIter.{BitmapIter}
use Rattle.masks.specs.declared.slice_iterator.Run.{Run}
use Rattle.masks.specs.declared.slice_iterator.SlicesIterator.{SlicesIterator}
use Rattle.histories.proofs.statements.History.{Call, try_new, append, freeze, into_opt_validity, make, History, from_mask}
use Rattle.histories.proofs.statements.History.{State, waiting, building, masked, no_mask, end_of, list_of, start_of, step}
use Rattle.histories.proofs.statements.History.{step_row, written_answer, written_bytes, written_flags}
use Rattle.histories.specs.MaskRows.{Combination, combination_row}
use Rattle.histories.specs.Rows.{Argument, own, other, Every, RowCall, Tuple, Writes, keep, write}

-- ---- what the calls show of a mask: `None` if a call is refused

-- the count that `unset_bits` returns
abbrev pub count_shown : Answer Bitmap Recounted → Option ℕ
count_shown (given r) = Some r.zeros
count_shown (refused k m) = None

-- the bytes that `freeze` writes to a buffer, for a new builder with the mask appended
abbrev pub frozen_shown : ℕ → List ℕ → Answer BitmapBuilder Bitmap → Option (List ℕ)
frozen_shown n bytes (given m) = Some (take (frozen_size n) bytes)
frozen_shown n bytes (refused k b) = None

abbrev pub then_frozen : ℕ → List ℕ → Answer BitmapBuilder BitmapBuilder → Option (List ℕ)
then_frozen n bytes (given b) = frozen_shown n (freeze_bytes b bytes) (freeze_of b bytes)
then_frozen n bytes (refused k b) = None

abbrev pub refrozen : Bitmap → List ℕ → List ℕ → Option (List ℕ)
refrozen m bytes buf =
    let whole = extend_bitmap m bytes 0 m.length in
    then_frozen m.length (append_bytes whole new_builder buf) (append_answer whole new_builder buf)

-- the flag that `nth` of a new `BitmapIter` returns, or `None` past the end
abbrev pub flag_shown : Answer BitmapIter (Step BitmapIter Bool) → Option (Option Bool)
flag_shown (given (item x c)) = Some (Some x)
flag_shown (given (ended c)) = Some None
flag_shown (refused k c) = None

abbrev pub nth_of : Answer (Unit {0}) BitmapIter → List ℕ → ℕ → Option (Option Bool)
nth_of (given c) bytes n = flag_shown (nth_flag c bytes n)
nth_of (refused k s) bytes n = None

abbrev pub nth_shown : Bitmap → List ℕ → ℕ → Option (Option Bool)
nth_shown m bytes n = nth_of (new_iter bytes m.start m.length) bytes n

-- the flag at a position of a list, or `None` past its end
abbrev pub flag_of : List Bool → ℕ → Option Bool
flag_of l n = cond (ltb n (length l)) (Some (get_or l n false)) None

-- the runs that `next` of a new cursor returns, until it returns none, in at most k calls
abbrev pub runs_of : ℕ → List ℕ → Answer (Unit {0}) SlicesIterator → Option (List Run)
runs_of k bytes (given c) = Some (listing (λ (d : SlicesIterator). next_slice d bytes) k c)
runs_of k bytes (refused n s) = None

abbrev pub runs_shown : ℕ → Bitmap → List ℕ → Option (List Run)
runs_shown k m bytes = runs_of k bytes (new_slices m bytes)

-- ---- combinations with other masks of n flags; the checks of these masks pass

abbrev pub FitAt : ℕ → Argument → Type 0
FitAt n own = Unit {0}
FitAt n (other m bytes) = (first_failed (mask_checks m bytes) ≡ 0) × (m.length ≡ n)

abbrev pub Fits : ℕ → (r : Writes) → Tuple Argument r.masks → Type 0
Fits n r a = Every (FitAt n) r.masks a

-- the call is accepted, writes the frozen bytes of the reference list's flags, and returns a mask over them
pub record Combines (m : Bitmap) (bytes : List ℕ) (l : List Bool) (r : Writes) (a : Tuple Argument r.masks) (out : List ℕ) : Type 0 where
  pub result : Bitmap
  pub accepted : written_answer m bytes r a ≡ given result
  pub written : written_bytes m bytes r a ≡ over out (frozen (written_flags l r a))
  pub flags : mask_flags result (written_bytes m bytes r a) ≡ written_flags l r a

-- ---- a mask and a list

pub record Agrees (m : Bitmap) (bytes : List ℕ) (l : List Bool) : Type 0 where
  pub sound : Sound m bytes
  pub long : m.length ≡ length l
  pub flags : mask_flags m bytes ≡ l
  -- a known count is true, and `unset_bits` returns the number of zeros
  pub known : TrueCount m.unset l
  pub counted : count_shown (unset_bits_of m bytes) ≡ Some (zeros l)
  -- the frozen bytes, in any buffer that holds them
  pub frozen_bytes : (buf : List ℕ) → frozen_size m.length ≤ length buf → refrozen m bytes buf ≡ Some (frozen l)
  -- the runs from place 0, if more calls list them than there are flags
  pub runs : (k : ℕ) → length l < k → runs_shown k m bytes ≡ Some (runs_from 0 l)
  -- `nth` of a new cursor, and both searches, at every argument
  pub nth : (n : ℕ) → nth_shown m bytes n ≡ Some (flag_of l n)
  pub forward : (n from : ℕ) → search_from bytes m.start m.length n from ≡ given (nth_from l n from)
  pub backward : (n end : ℕ) → search_back bytes m.start m.length n end ≡ given (nth_back l n end)
  -- each combination with other masks of the same length that pass their checks, in an output that is large enough
  pub combined : (c : Combination) (out : List ℕ) (a : Tuple Argument (combination_row c out).masks)
      → Fits m.length (combination_row c out) a → frozen_size m.length ≤ length out → Combines m bytes l (combination_row c out) a out

-- ---- two masks

pub record Alike (m : Bitmap) (bytes : List ℕ) (m' : Bitmap) (bytes' : List ℕ) : Type 0 where
  pub long : m.length ≡ m'.length
  pub known : (z z' : ℕ) → m.unset ≡ Some z → m'.unset ≡ Some z' → z ≡ z'
  pub counted : count_shown (unset_bits_of m bytes) ≡ count_shown (unset_bits_of m' bytes')
  pub frozen_bytes : (buf : List ℕ) → frozen_size m.length ≤ length buf → refrozen m bytes buf ≡ refrozen m' bytes' buf
  pub runs : (k : ℕ) → m.length < k → runs_shown k m bytes ≡ runs_shown k m' bytes'
  pub nth : (n : ℕ) → nth_shown m bytes n ≡ nth_shown m' bytes' n
  pub forward : (n from : ℕ) → search_from bytes m.start m.length n from ≡ search_from bytes' m'.start m'.length n from
  pub backward : (n end : ℕ) → search_back bytes m.start m.length n end ≡ search_back bytes' m'.start m'.length n end
  pub combined : (c : Combination) (out : List ℕ) (a : Tuple Argument (combination_row c out).masks)
      → Fits m.length (combination_row c out) a → frozen_size m.length ≤ length out
      → written_bytes m bytes (combination_row c out) a ≡ written_bytes m' bytes' (combination_row c out) a

-- ---- the statement

-- the flags of the mask in a state; the empty list if it has no mask
abbrev pub state_flags : State → List Bool
state_flags waiting = []
state_flags (building f) = []
state_flags (masked m bytes) = mask_flags m bytes
state_flags no_mask = []

-- a history ends in a mask
abbrev pub ComesTo : {Code : Type 0} → (Code → RowCall) → History Code → Bitmap → List ℕ → Type 0
ComesTo call_of h m bytes = end_of call_of h ≡ masked m bytes

-- the history that begins with an imported mask and has no call yet
abbrev pub imported_history : {Code : Type 0} → Bitmap → List ℕ → History Code
imported_history m bytes = record { start = from_mask m bytes; calls = [] }

-- each other mask that a call takes has an unknown or a true count
abbrev pub TruthfulAt : Argument → Type 0
TruthfulAt own = Unit {0}
TruthfulAt (other m bytes) = Truthful m bytes

abbrev pub TruthfulRow : RowCall → Type 0
TruthfulRow (keep r) = Unit {0}
TruthfulRow (write r a) = Every TruthfulAt r.masks a

abbrev pub TruthfulAppend : Append → Type 0
TruthfulAppend (push_flag x) = Unit {0}
TruthfulAppend (extend_constant n x) = Unit {0}
TruthfulAppend (push_word w n) = Unit {0}
TruthfulAppend (extend_slice bytes start n) = Unit {0}
TruthfulAppend (extend_repeated bytes start n k) = Unit {0}
TruthfulAppend (extend_bitmap m bytes offset n) = Truthful m bytes
TruthfulAppend (extend_gather bytes start n idxs) = Unit {0}
TruthfulAppend (extend_opt_gather bytes start n idxs) = Unit {0}

abbrev pub TruthfulCall : {Code : Type 0} → (Code → RowCall) → Call Code → Type 0
TruthfulCall call_of (try_new bytes start n) = Unit {0}
TruthfulCall call_of (append a) = TruthfulAppend a
TruthfulCall call_of freeze = Unit {0}
TruthfulCall call_of into_opt_validity = Unit {0}
TruthfulCall call_of (make c) = TruthfulRow (call_of c)

-- The histories are over the table's calls, which make a mask from masks, and over `try_new`, appends, `freeze` and `into_opt_validity`.
pub record OneMeaning {Code : Type 0} (call_of : Code → RowCall) : Type 0 where
  -- an imported mask whose checks pass begins a history, and its list is the flags in the mask's bytes; another mask is no start
  pub imported : (m : Bitmap) (bytes : List ℕ) → first_failed (mask_checks m bytes) ≡ 0
      → ComesTo call_of (imported_history m bytes) m bytes × (list_of call_of (imported_history m bytes) ≡ mask_flags m bytes)
  pub not_imported : (m : Bitmap) (bytes : List ℕ) → (first_failed (mask_checks m bytes) ≡ 0 → ⊥) → start_of (from_mask m bytes) ≡ waiting
  -- each other mask that an accepted call takes has an unknown or a true count
  pub truthful : (s : State) (c : Call Code) → (step call_of s c).accepted ≡ true → TruthfulCall call_of c
  -- every mask in which a history ends agrees with the history's reference list
  pub agrees : (h : History Code) (m : Bitmap) (bytes : List ℕ) → ComesTo call_of h m bytes → Agrees m bytes (list_of call_of h)
  -- two histories with equal lists agree in all that is compared
  pub alike : (h h' : History Code) (m m' : Bitmap) (bytes bytes' : List ℕ) → ComesTo call_of h m bytes → ComesTo call_of h' m' bytes'
      → list_of call_of h ≡ list_of call_of h' → Alike m bytes m' bytes'
  -- if the lists differ, the lengths or the frozen bytes differ
  pub apart : (h h' : History Code) (m m' : Bitmap) (bytes bytes' : List ℕ) → ComesTo call_of h m bytes → ComesTo call_of h' m' bytes'
      → (list_of call_of h ≡ list_of call_of h' → ⊥) → (buf : List ℕ) → frozen_size m.length ≤ length buf
      → m.length ≡ m'.length → refrozen m bytes buf ≡ refrozen m' bytes' buf → ⊥
  -- if two histories with equal lists both make a call of the table next, and both calls are accepted, their masks have equal flags
  pub onward : (h h' : History Code) (m m' : Bitmap) (bytes bytes' : List ℕ) → ComesTo call_of h m bytes → ComesTo call_of h' m' bytes'
      → list_of call_of h ≡ list_of call_of h' → (c : Code)
      → (step_row m bytes (call_of c)).accepted ≡ true → (step_row m' bytes' (call_of c)).accepted ≡ true
      → state_flags (step_row m bytes (call_of c)).state ≡ state_flags (step_row m' bytes' (call_of c)).state
