-- The plain reading of a cursor over runs: it lists all runs of its flags, one by one; and what a run is.
use Rattle.std.proofs.lemmas.Bool.{cases_lt}
use Rattle.std.proofs.Math.ListN.{get_or-eq_default}
use mathlib.Core.Path.{◌≡◌, refl, sym, ap, ◌∙◌}
use mathlib.Core.Bool.{Bool, true, false, cond}
use mathlib.Core.List.{List, [], ◌∷◌}
use mathlib.Core.Logic.{⊎_elim}
use Prim.Native.Nat.{ℕ, zero, suc, ◌+◌, ◌-◌, ◌≤◌, ◌<◌}
use native.Mathlib.Nat.{add-zero}
use native.Mathlib.Omega.{arith}
use lib.Dec.{eqb}
use lib.ListN.{length, drop, get_or, length-drop}
use lib.Seq.{drop-drop, get_or-drop}
use borrow.Author.Tests.{eq-eqb, ne_eqb, lt-ltb, le-ltb}
use Rattle.words.specs.Ends.{leading}
use Rattle.words.proofs.ends.EndLaws.{leading_le}
use Rattle.masks.specs.Iterator.{leading_from}
use Rattle.masks.proofs.statements.Listing.{runs_left, listed}
use Rattle.masks.specs.SliceIterator.{run_of, run_start, slice_step, with_one, runs_from}
use Rattle.masks.specs.declared.slice_iterator.Run.{Run}
use Rattle.masks.specs.declared.slice_iterator.SlicesIterator.{SlicesIterator}

-- ---- a one before other runs

joins : (k n : ℕ) (rs : List Run) → with_one k (run_of (suc k) n ∷ rs) ≡ run_of k (suc n) ∷ rs
unfolding with_one
joins k n rs = rw (eq-eqb (suc k) (suc k) refl)

pub stands-off : (k : ℕ) (r : Run) (rs : List Run) → (r.start ≡ suc k → ⊥) → with_one k (r ∷ rs) ≡ run_of k 1 ∷ (r ∷ rs)
unfolding with_one
stands-off k r rs h = rw (ne_eqb r.start (suc k) h)

by-test : (t : Bool) (j k : ℕ) (r : Run) (rs : List Run) → suc k < j
    → with_one k (cond t (run_of j (suc r.length) ∷ rs) (run_of j 1 ∷ (r ∷ rs)))
    ≡ run_of k 1 ∷ cond t (run_of j (suc r.length) ∷ rs) (run_of j 1 ∷ (r ∷ rs))
by-test true j k r rs h = stands-off k (run_of j (suc r.length)) rs (λ (e : j ≡ suc k). omega arith)
by-test false j k r rs h = stands-off k (run_of j 1) (r ∷ rs) (λ (e : j ≡ suc k). omega arith)

two-ones : (j k : ℕ) (rs : List Run) → suc k < j → with_one k (with_one j rs) ≡ run_of k 1 ∷ with_one j rs
unfolding with_one
two-ones j k [] h = stands-off k (run_of j 1) [] (λ (e : j ≡ suc k). omega arith)
two-ones j k (r ∷ rs) h = by-test (eqb r.start (suc j)) j k r rs h

alone : (k : ℕ) → with_one k [] ≡ run_of k 1 ∷ []
unfolding with_one
alone k = refl

-- a one before runs that begin at j or later, with a zero between, is a run of its own
apart : (j k : ℕ) (l : List Bool) → suc k < j → with_one k (runs_from j l) ≡ run_of k 1 ∷ runs_from j l
unfolding runs_from
apart j k [] h = alone k
apart j k (false ∷ l) h = apart (suc j) k l (omega arith)
apart j k (true ∷ l) h = two-ones j k (runs_from (suc j) l) h

-- ---- zeros are passed over, and ones are a run

zeros-passed : (k : ℕ) (l : List Bool) → runs_from k l ≡ runs_from (k + leading false l) (drop (leading false l) l)
unfolding runs_from leading
zeros-passed k [] = refl
zeros-passed k (true ∷ l) = ap (λ (j : ℕ). with_one j (runs_from (suc j) l)) (sym (add-zero k))
zeros-passed k (false ∷ l) =
    let e : suc k + leading false l ≡ k + suc (leading false l) = omega arith in
    zeros-passed (suc k) l ∙ ap (λ (j : ℕ). runs_from j (drop (leading false l) l)) e

ones-taken : (k : ℕ) (l : List Bool) → 0 < leading true l
    → runs_from k l ≡ run_of k (leading true l) ∷ runs_from (k + leading true l) (drop (leading true l) l)
unfolding runs_from leading with_one
ones-taken k [] h = absurd (omega arith)
ones-taken k (false ∷ l) h = absurd (omega arith)
ones-taken k (true ∷ []) h = refl
ones-taken k (true ∷ (false ∷ l)) h =
    let e : suc (suc k) ≡ suc (k + 1) = omega arith in
    apart (suc (suc k)) k l (omega arith) ∙ ap (λ (j : ℕ). run_of k 1 ∷ runs_from j l) e
ones-taken k (true ∷ (true ∷ l)) h =
    let e : suc k + suc (leading true l) ≡ k + suc (suc (leading true l)) = omega arith in
    ap (with_one k) (ones-taken (suc k) (true ∷ l) (omega arith))
    ∙ joins k (suc (leading true l)) (runs_from (suc k + suc (leading true l)) (drop (leading true l) l))
    ∙ ap (λ (j : ℕ). run_of k (suc (suc (leading true l))) ∷ runs_from j (drop (leading true l) l)) e

-- after the leading zeros there is a one, unless the list ends
pub then-ones : (l : List Bool) → leading false l < length l → 0 < leading true (drop (leading false l) l)
unfolding leading
then-ones [] h = absurd (omega arith)
then-ones (true ∷ l) h = omega arith
then-ones (false ∷ l) h = then-ones l (omega arith)

no-runs : (k : ℕ) (l : List Bool) → length l ≡ 0 → runs_from k l ≡ []
unfolding runs_from
no-runs k [] h = refl
no-runs k (x ∷ l) h = absurd (omega arith)

-- ---- one by one

pub after : (l : List Bool) (place : ℕ) → runs_left l place ≡ runs_left l (run_start l place)
unfolding runs_left run_start leading_from
after l place =
    zeros-passed place (drop place l)
    ∙ ap (runs_from (place + leading false (drop place l))) (drop-drop (leading false (drop place l)) place l)

starts-one : (l : List Bool) (place : ℕ) → run_start l place < length l → 0 < leading true (drop (run_start l place) l)
unfolding run_start leading_from
starts-one l place h =
    rw (sym (drop-drop (leading false (drop place l)) place l)) (then-ones (drop place l) (omega (arith, length-drop place l)))

pub a-run-first : (l : List Bool) (place : ℕ) → run_start l place < length l
    → runs_left l (run_start l place)
    ≡ run_of (run_start l place) (leading_from true l (run_start l place)) ∷ runs_left l
    (run_start l place + leading_from true l (run_start l place))
unfolding runs_left leading_from
a-run-first l place h =
    let s = run_start l place in
    let n = leading true (drop s l) in
    ones-taken s (drop s l) (starts-one l place h) ∙ ap (λ (t : List Bool). run_of s n ∷ runs_from (s + n) t) (drop-drop n s l)

pub none_left : (l : List Bool) (s : ℕ) → length l ≤ s → runs_left l s ≡ []
unfolding runs_left
none_left l s h = no-runs s (drop s l) (omega (arith, length-drop s l))

-- the next run is the first of those that the cursor has left, and the cursor after it has the others left
pub next-lists : (c : SlicesIterator) (l : List Bool) → length l ≡ c.length → runs_left l c.place ≡ listed l (slice_step c l)
unfolding slice_step
next-lists c l e =
    let s = run_start l c.place in
    after l c.place
    ∙ ⊎_elim
    (λ (h : s < c.length). rw (lt-ltb s c.length h) (a-run-first l c.place (omega arith)))
    (λ (h : c.length ≤ s). rw (le-ltb s c.length h) (none_left l s (omega arith)))
    (cases_lt s c.length)

-- ---- what a run is

-- the first run at or after a place: zeros before it, ones in it, and after it a zero or the end
pub record FirstRun (l : List Bool) (place : ℕ) (r : Run) : Type 0 where
  pub after : place ≤ r.start
  pub inside : r.start + r.length ≤ length l
  pub some : 0 < r.length
  pub zeros : (j : ℕ) → place ≤ j → j < r.start → get_or l j false ≡ false
  pub ones : (j : ℕ) → r.start ≤ j → j < r.start + r.length → get_or l j false ≡ true
  pub stops : get_or l (r.start + r.length) false ≡ false

pub leading-in : (x : Bool) (l : List Bool) (j : ℕ) → j < leading x l → get_or l j false ≡ x
unfolding leading
leading-in x [] j h = absurd (omega arith)
leading-in true (true ∷ l) zero h = refl
leading-in true (true ∷ l) (suc j) h = leading-in true l j (omega arith)
leading-in true (false ∷ l) j h = absurd (omega arith)
leading-in false (true ∷ l) j h = absurd (omega arith)
leading-in false (false ∷ l) zero h = refl
leading-in false (false ∷ l) (suc j) h = leading-in false l j (omega arith)

leading-out : (l : List Bool) → get_or l (leading true l) false ≡ false
unfolding leading
leading-out [] = refl
leading-out (true ∷ l) = leading-out l
leading-out (false ∷ l) = refl

from_place : (x : Bool) (l : List Bool) (place j : ℕ) → place ≤ j → j < place + leading_from x l place → get_or l j false ≡ x
unfolding leading_from
from_place x l place j a b =
    let e : j ≡ place + (j - place) = omega arith in
    ap (λ (i : ℕ). get_or l i false) e ∙ sym (get_or-drop place l (j - place) false) ∙ leading-in x (drop place l) (j - place) (omega arith)

ones-inside : (l : List Bool) (s : ℕ) → s ≤ length l → s + leading_from true l s ≤ length l
unfolding leading_from
ones-inside l s h = omega (arith, leading_le true (drop s l), length-drop s l)

ones-some : (l : List Bool) (place : ℕ) → run_start l place < length l → 0 < leading_from true l (run_start l place)
unfolding leading_from
ones-some l place h = starts-one l place h

ones-stop : (l : List Bool) (s : ℕ) → get_or l (s + leading_from true l s) false ≡ false
unfolding leading_from
ones-stop l s = sym (get_or-drop s l (leading true (drop s l)) false) ∙ leading-out (drop s l)

zeros-first : (l : List Bool) (place j : ℕ) → place ≤ j → j < run_start l place → get_or l j false ≡ false
unfolding run_start
zeros-first l place j a b = from_place false l place j a b

starts-after : (l : List Bool) (place : ℕ) → place ≤ run_start l place
unfolding run_start
starts-after l place = omega arith

-- if there is a run, the first one begins at `run_start` and has the ones there
pub first_run_lem : (l : List Bool) (place : ℕ) → run_start l place < length l
    → FirstRun l place (run_of (run_start l place) (leading_from true l (run_start l place)))
first_run_lem l place h = record {
  after = starts-after l place;
  inside = ones-inside l (run_start l place) (omega arith);
  some = ones-some l place h;
  zeros = zeros-first l place;
  ones = from_place true l (run_start l place);
  stops = ones-stop l (run_start l place);
}

-- and if there is none, no flag at or after the place is set
pub no_ones : (l : List Bool) (place : ℕ) → length l ≤ run_start l place → (j : ℕ) → place ≤ j → get_or l j false ≡ false
no_ones l place h j a = ⊎_elim
    (λ (b : j < run_start l place). zeros-first l place j a b)
    (λ (b : run_start l place ≤ j). get_or-eq_default l false (omega arith))
    (cases_lt j (run_start l place))
