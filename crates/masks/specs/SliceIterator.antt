-- The runs of ones of a mask, one by one.
use Rattle.std.specs.Prelude.{ℕ, suc, ◌+◌, Bool, true, false, cond, List, [], ◌∷◌, ltb, eqb, length}
use Rattle.masks.specs.Checks.{Check}
use Rattle.masks.specs.Cursor.{Step, item, ended, cursor_checks}
use Rattle.masks.specs.Iterator.{leading_from}
use Rattle.masks.specs.declared.slice_iterator.Run.{Run}
use Rattle.masks.specs.declared.slice_iterator.SlicesIterator.{SlicesIterator}

-- a cursor over n flags starting at `start`, at a place that counts flags: the one place where its record is made
abbrev pub slices_at : ℕ → ℕ → ℕ → SlicesIterator
slices_at start n place = record { start = start; length = n; place = place }

-- a cursor moved to another place
abbrev pub slices_moved : SlicesIterator → ℕ → SlicesIterator
slices_moved c place = slices_at c.start c.length place

abbrev pub run_of : ℕ → ℕ → Run
run_of first n = record { start = first; length = n }

-- ---- the next run: checks 1, 2 and 6

abbrev pub run_checks : SlicesIterator → List ℕ → List Check
run_checks c bytes = cursor_checks c.start c.length c.place (length bytes)

-- the position of the first one at or after a place: after the zeros there. With no ones left it is the length.
unfoldable pub run_start : List Bool → ℕ → ℕ
run_start l place = place + leading_from false l place

-- the next run, and the cursor just past it; with no ones left none, and the cursor at the length
unfoldable pub slice_step : SlicesIterator → List Bool → Step SlicesIterator Run
slice_step c l =
    let first = run_start l c.place in
    let n = leading_from true l first in
    cond (ltb first c.length) (item (run_of first n) (slices_moved c (first + n))) (ended (slices_moved c c.length))

-- ---- all runs of a list

-- a one at k put before the runs that follow it: it joins a run that begins just after it
unfoldable pub with_one : ℕ → List Run → List Run
with_one k [] = run_of k 1 ∷ []
with_one k (r ∷ rs) = cond (eqb r.start (suc k)) (run_of k (suc r.length) ∷ rs) (run_of k 1 ∷ (r ∷ rs))

-- the runs of ones of a list whose first flag is number k, rising
unfoldable pub runs_from : ℕ → List Bool → List Run
runs_from k [] = []
runs_from k (false ∷ l) = runs_from (suc k) l
runs_from k (true ∷ l) = with_one k (runs_from (suc k) l)
