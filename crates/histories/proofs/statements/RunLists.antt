-- Run lists: a mask's length and its runs determine its flags, and the mask can be rebuilt from them.
--
-- The runs of a list of flags are `runs_from 0`, which a new `SlicesIterator` lists. The calls are those of a history, so the theorem
-- is about the contracts of `extend_constant` and `freeze`.
use Rattle.std.specs.Prelude.{ℕ, ◌+◌, ◌-◌, ◌≤◌, ◌<◌, ◌≡◌, Bool, true, false, cond, ◌&&◌, List, [], ◌∷◌, ◌++◌, map, eqb, leb, ltb, length}
use Rattle.std.specs.Prelude.{Some}
use Rattle.masks.specs.equations.Appends.{extend_constant}
use Rattle.masks.specs.Builder.{Filling, builder_flags}
use Rattle.masks.specs.Checks.{first_failed, limit}
use Rattle.masks.specs.Frozen.{frozen_size}
use Rattle.masks.specs.Mask.{mask_checks, mask_flags}
use Rattle.masks.specs.SliceIterator.{runs_from}
use Rattle.masks.specs.declared.bitmap.Bitmap.{Bitmap}
use Rattle.masks.specs.declared.slice_iterator.Run.{Run}
use Rattle.histories.proofs.statements.Agreement.{Agrees, Alike, runs_shown}
use Rattle.histories.proofs.statements.History.{Call, append, freeze, Fed, building, masked, from_builder, outcome, run, start_of, step}
use Rattle.histories.proofs.statements.History.{trace}
use Rattle.histories.proofs.statements.Library.{LibraryCall, library_call}

-- ---- the lists of runs that are meant

unfoldable pub every_run : (Run → Bool) → List Run → Bool
every_run test [] = true
every_run test (r ∷ rs) = test r && every_run test rs

abbrev pub is_long : Run → Bool
is_long r = leb 1 r.length

abbrev pub is_inside : ℕ → Run → Bool
is_inside n r = leb (r.start + r.length) n

-- whether the next run, if there is one, begins at least one flag after the end of r
abbrev pub is_clear : Run → List Run → Bool
is_clear r [] = true
is_clear r (s ∷ rs) = ltb (r.start + r.length) s.start

unfoldable pub is_apart : List Run → Bool
is_apart [] = true
is_apart (r ∷ rs) = is_clear r rs && is_apart rs

-- runs that are at least one flag long, rising, with at least one flag between neighbours, and inside n flags
pub record RunList (n : ℕ) (rs : List Run) : Type 0 where
  pub long : every_run is_long rs ≡ true
  pub apart : is_apart rs ≡ true
  pub inside : every_run (is_inside n) rs ≡ true

-- l is a list of n flags, and its runs are rs
pub record HasRuns (n : ℕ) (rs : List Run) (l : List Bool) : Type 0 where
  pub long : length l ≡ n
  pub runs : runs_from 0 l ≡ rs

-- ---- saving runs, by calls of `extend_constant` only

abbrev pub constant : ℕ → Bool → Call LibraryCall
constant n flag = append (extend_constant n flag)

-- the zeros of the gap from flag k up to `end`. If the gap is empty, the call may be left out; `leaves end` says whether it is.
unfoldable pub gap_calls : (ℕ → Bool) → ℕ → ℕ → List (Call LibraryCall)
gap_calls leaves k end = cond (eqb k end && leaves end) [] (constant (end - k) false ∷ [])

-- the calls for the flags k up to n: each gap's zeros, each run's ones, last the zeros up to n
unfoldable pub saving_from : (ℕ → Bool) → ℕ → ℕ → List Run → List (Call LibraryCall)
saving_from leaves n k [] = gap_calls leaves k n
saving_from leaves n k (r ∷ rs) =
    gap_calls leaves k r.start ++ (constant r.length true ∷ saving_from leaves n (r.start + r.length) rs)

-- all these calls on a new builder under a serial, over the buffer `buf`, are accepted, its flags are then l, and `freeze` is accepted and
-- returns a mask under that serial that agrees with l
pub record Saves (serial : ℕ) (l : List Bool) (buf : List ℕ) (calls : List (Call LibraryCall)) : Type 0 where
  pub accepted : map (λ (f : Fed LibraryCall). f.accepted) (trace library_call (start_of (from_builder serial buf)) calls)
      ≡ map (λ (c : Call LibraryCall). true) calls
  pub builder : Filling
  pub builds : run library_call (start_of (from_builder serial buf)) calls ≡ building builder
  pub flags : builder_flags builder ≡ l
  pub mask : Bitmap
  pub bytes : List ℕ
  pub freezes : step library_call (building builder) freeze ≡ outcome (masked mask bytes) true
  pub under : mask.serial ≡ serial
  pub agrees : Agrees mask bytes l

-- a mask taken apart into the runs that its cursor lists, and saved under any serial, in any buffer of at least 8 × ceil(length / 64) bytes
pub record Rebuilt (m : Bitmap) (bytes : List ℕ) : Type 0 where
  pub runs : List Run
  pub listed : (k : ℕ) → m.length < k → runs_shown k m bytes ≡ Some runs
  pub saved : (serial : ℕ) (leaves : ℕ → Bool) (buf : List ℕ) → frozen_size m.length ≤ length buf
      → Saves serial (mask_flags m bytes) buf (saving_from leaves m.length 0 runs)
  -- calls on the saved mask answer as on the mask that was taken apart
  pub alike : (serial : ℕ) (leaves : ℕ → Bool) (buf : List ℕ) (large : frozen_size m.length ≤ length buf)
      → Alike m bytes (saved serial leaves buf large).mask (saved serial leaves buf large).bytes

-- ---- the statement

pub record RunLists : Type 0 where
  -- the runs of every list of flags are a run list
  pub such : (l : List Bool) → RunList (length l) (runs_from 0 l)
  -- each run list is that of exactly one list of n flags: of one,
  pub one : (n : ℕ) (rs : List Run) → RunList n rs → (l : List Bool) × HasRuns n rs l
  -- and of no other
  pub only : (n : ℕ) (rs : List Run) (l l' : List Bool) → HasRuns n rs l → HasRuns n rs l' → l ≡ l'
  -- saving a run list makes this list of flags
  pub saves : (n : ℕ) (rs : List Run) (l : List Bool) → HasRuns n rs l → n ≤ limit → (serial : ℕ) (leaves : ℕ → Bool) (buf : List ℕ)
      → frozen_size n ≤ length buf → Saves serial l buf (saving_from leaves n 0 rs)
  -- every mask whose checks pass is rebuilt from its length and its runs, its count known or not
  pub rebuilt : (m : Bitmap) (bytes : List ℕ) → first_failed (mask_checks m bytes) ≡ 0 → Rebuilt m bytes
