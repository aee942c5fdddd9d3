-- The items of a cursor call by call, and all runs and all ones of a list: the terms in which the theorems on cursors are stated. No
-- contract cites it.
use Rattle.std.specs.Prelude.{ℕ, zero, suc, ◌+◌, ◌≤◌, ◌<◌, ◌≡◌, Bool, true, false, List, [], ◌∷◌, length, drop, get_or}
use Rattle.masks.specs.equations.Answer.{Answer, given, refused}
use Rattle.masks.specs.Cursor.{Step, item, ended}
use Rattle.masks.specs.SliceIterator.{runs_from}
use Rattle.masks.specs.declared.slice_iterator.Run.{Run}
use Rattle.masks.specs.declared.slice_iterator.SlicesIterator.{SlicesIterator}

-- ---- a cursor's items, call by call

-- the item of an answer, and `more` of the cursor past it; nothing if there is no item
abbrev pub item_then : {C A : Type 0} → (C → List A) → Answer C (Step C A) → List A
item_then more (given (item a c)) = a ∷ more c
item_then more (given (ended c)) = []
item_then more (refused k c) = []

-- the items that `next` returns, starting with a cursor, until it returns none, in at most `calls` calls
unfoldable pub listing : {C A : Type 0} → (C → Answer C (Step C A)) → ℕ → C → List A
listing next zero c = []
listing next (suc calls) c = item_then (listing next calls) (next c)

-- the cursor of an answer
abbrev pub cursor_of : {C A : Type 0} → Answer C (Step C A) → C
cursor_of (given (item a c)) = c
cursor_of (given (ended c)) = c
cursor_of (refused k c) = c

-- the cursor after `calls` calls of `next`
unfoldable pub after_calls : {C A : Type 0} → (C → Answer C (Step C A)) → ℕ → C → C
after_calls next zero c = c
after_calls next (suc calls) c = after_calls next calls (cursor_of (next c))

-- ---- runs of ones

-- the runs of a list that a cursor at a place has left
unfoldable pub runs_left : List Bool → ℕ → List Run
runs_left l place = runs_from place (drop place l)

-- a step's run, and the runs that the cursor past it has left
abbrev pub listed : List Bool → Step SlicesIterator Run → List Run
listed l (item r c) = r ∷ runs_left l c.place
listed l (ended c) = []

-- a run that nothing extends: at either side is a zero or an end of the list
pub record Maximal (l : List Bool) (r : Run) : Type 0 where
  pub some : 0 < r.length
  pub inside : r.start + r.length ≤ length l
  pub ones : (j : ℕ) → r.start ≤ j → j < r.start + r.length → get_or l j false ≡ true
  pub begins : (j : ℕ) → suc j ≡ r.start → get_or l j false ≡ false
  pub stops : get_or l (r.start + r.length) false ≡ false

-- all runs at or after flag p: maximal, rising, no two of them adjacent; every other flag there is a zero
pub data AllRuns (l : List Bool) : ℕ → List Run → Type 0 where
  no_run : {p : ℕ} → ((j : ℕ) → p ≤ j → get_or l j false ≡ false) → AllRuns l p []
  run_at : {p : ℕ} {r : Run} {more : List Run} → p ≤ r.start → ((j : ℕ) → p ≤ j → j < r.start → get_or l j false ≡ false) → Maximal l r
      → AllRuns l (suc (r.start + r.length)) more → AllRuns l p (r ∷ more)

-- ---- positions of ones

-- all ones at or after flag p, rising; every other flag there is a zero
pub data AllOnes (l : List Bool) : ℕ → List ℕ → Type 0 where
  no_one : {p : ℕ} → ((j : ℕ) → p ≤ j → get_or l j false ≡ false) → AllOnes l p []
  one_at : {p i : ℕ} {more : List ℕ} → p ≤ i → ((j : ℕ) → p ≤ j → j < i → get_or l j false ≡ false) → get_or l i false ≡ true
      → AllOnes l (suc i) more → AllOnes l p (i ∷ more)
