-- All runs of a list: from place 0 a cursor lists, until it returns none, all runs, each maximal, in rising order, and every one lies in
-- one of them.
use Rattle.std.proofs.lemmas.Bool.{cases_lt, true≢false}
use mathlib.Core.Path.{◌≡◌, refl, sym, ap, ◌∙◌, subst}
use mathlib.Core.Bool.{Bool, true, false}
use mathlib.Core.List.{List, ◌∷◌, Memᴰ}
use mathlib.Core.Logic.{⊎_elim}
use Prim.Native.Nat.{ℕ, zero, suc, ◌+◌, ◌-◌, ◌≤◌, ◌<◌}
use native.Mathlib.Omega.{arith}
use lib.ListN.{length, drop, get_or}
use lib.Seq.{drop-cons}
use borrow.Author.Tests.{lt-ltb, le-ltb}
use Rattle.words.specs.Flags.{flags_of}
use Rattle.words.specs.Loops.{stretch}
use Rattle.words.proofs.flags.Windows.{length-window}
use Rattle.masks.specs.equations.Answer.{Answer, given}
use Rattle.masks.specs.Checks.{first_failed, span_checks}
use Rattle.masks.specs.Cursor.{Step, item, ended, cursor_checks}
use Rattle.masks.specs.Iterator.{leading_from}
use Rattle.masks.proofs.statements.Listing.{listing, runs_left, listed, Maximal, AllRuns, no_run, run_at}
use Rattle.masks.specs.Mask.{mask_checks, mask_flags}
use Rattle.masks.specs.SliceIterator.{slices_at, slices_moved, run_of, run_checks, run_start, slice_step, runs_from}
use Rattle.masks.specs.equations.SliceIterator.{next_slice}
use Rattle.masks.specs.declared.bitmap.Bitmap.{Bitmap}
use Rattle.masks.specs.declared.slice_iterator.Run.{Run}
use Rattle.masks.specs.declared.slice_iterator.SlicesIterator.{SlicesIterator}
use Rattle.masks.proofs.checks.CheckLaws.{is-given}
use Rattle.masks.proofs.cursor.CursorLaws.{over-mask}
use Rattle.masks.proofs.cursor.ListingLaws.{Moves, gives, ends, lists, place-again}
use Rattle.masks.proofs.theorems.RunsPlain.{FirstRun, first_run_lem, no_ones, next-lists, none_left, after, a-run-first}

-- ---- all of them, and maximal

zero-first : (k : ℕ) (l : List Bool) → runs_from k (false ∷ l) ≡ runs_from (suc k) l
unfolding runs_from
zero-first k l = refl

over_zero : (l : List Bool) (p : ℕ) → get_or l p false ≡ false → runs_left l p ≡ runs_left l (suc p)
unfolding runs_left
over_zero l p e = ⊎_elim
    (λ (h : p < length l).
    ap (runs_from p) (drop-cons l p false h ∙ ap (λ (x : Bool). x ∷ drop (suc p) l) e) ∙ zero-first p (drop (suc p) l))
    (λ (h : length l ≤ p). none_left l p h ∙ sym (none_left l (suc p) (omega arith)))
    (cases_lt p (length l))

-- no run is cut at p: the flag before it is a zero, or there is none
abbrev Uncut : List Bool → ℕ → Type 0
Uncut l p = (j : ℕ) → suc j ≡ p → get_or l j false ≡ false

maximal : (l : List Bool) (p : ℕ) (r : Run) → Uncut l p → FirstRun l p r → Maximal l r
maximal l p r cut f = record {
  some = f.some;
  inside = f.inside;
  ones = f.ones;
  begins = λ (j : ℕ) (e : suc j ≡ r.start). ⊎_elim
      (λ (h : j < p). cut j (omega (arith, f.after)))
      (λ (h : p ≤ j). f.zeros j h (omega arith))
      (cases_lt j p);
  stops = f.stops;
}

all_left : (k : ℕ) (l : List Bool) (p : ℕ) → length l - p < k → Uncut l p → AllRuns l p (runs_left l p)
all_left zero l p h cut = absurd (omega arith)
all_left (suc k) l p h cut =
    let s : ℕ = run_start l p in
    let n : ℕ = leading_from true l s in
    let r : Run = run_of s n in ⊎_elim
    (λ (b : s < length l).
    let f : FirstRun l p r = first_run_lem l p b in
    let below : AllRuns l (suc (s + n)) (runs_left l (suc (s + n))) =
    all_left k l (suc (s + n)) (omega (arith, f.after, f.some)) (λ (j : ℕ) (e : suc j ≡ suc (s + n)).
    let i : j ≡ s + n = omega arith in ap (λ (x : ℕ). get_or l x false) i ∙ f.stops) in
    subst (AllRuns l p) (sym (after l p ∙ a-run-first l p b ∙ ap (λ (t : List Run). r ∷ t) (over_zero l (s + n) f.stops)))
    (run_at f.after f.zeros (maximal l p r cut f) below))
    (λ (b : length l ≤ s). subst (AllRuns l p) (sym (after l p ∙ none_left l s b)) (no_run (no_ones l p b)))
    (cases_lt s (length l))

from_first : (l : List Bool) → runs_left l 0 ≡ runs_from 0 l
unfolding runs_left
from_first l = refl

pub all_runs : (l : List Bool) → AllRuns l 0 (runs_from 0 l)
all_runs l =
    subst (AllRuns l 0) (from_first l) (all_left (suc (length l)) l 0 (omega arith) (λ (j : ℕ) (e : suc j ≡ 0). absurd (omega arith)))

after-stop : (l : List Bool) (s j : ℕ) → s ≤ j → get_or l s false ≡ false → get_or l j false ≡ true → suc s ≤ j
after-stop l s j h z e = ⊎_elim
    (λ (b : s < j). b)
    (λ (b : j ≤ s). let i : j ≡ s = omega arith in absurd (true≢false (sym e ∙ ap (λ (x : ℕ). get_or l x false) i ∙ z)))
    (cases_lt s j)

-- every one lies in a run
pub in-a-run : {l : List Bool} {p : ℕ} {rs : List Run} → AllRuns l p rs → (j : ℕ) → p ≤ j → get_or l j false ≡ true
    → (r : Run) × (Memᴰ r rs × ((r.start ≤ j) × (j < r.start + r.length)))
in-a-run (no_run z) j h e = absurd (true≢false (sym e ∙ z j h))
in-a-run {l} {p} (run_at {r = r} {more = more} low z m rest) j h e = ⊎_elim
    (λ (b : j < r.start). absurd (true≢false (sym e ∙ z j h b)))
    (λ (b : r.start ≤ j). ⊎_elim
    (λ (d : j < r.start + r.length). (r, (Memᴰ.head refl, (b, d))))
    (λ (d : r.start + r.length ≤ j).
    let beyond : suc (r.start + r.length) ≤ j = after-stop l (r.start + r.length) j d m.stops e in
    let found = in-a-run rest j beyond e in
    (found.0, (Memᴰ.tail found.1.0, found.1.1)))
    (cases_lt j (r.start + r.length)))
    (cases_lt j r.start)

-- ---- call by call

abbrev answer-of : List ℕ → SlicesIterator → Answer SlicesIterator (Step SlicesIterator Run)
answer-of bytes c = next_slice c bytes

abbrev flags-in : List ℕ → SlicesIterator → List Bool
flags-in bytes c = stretch bytes c.start c.length

abbrev left-of : List ℕ → SlicesIterator → List Run
left-of bytes c = runs_left (flags-in bytes c) c.place

abbrev IsAccepted : List ℕ → SlicesIterator → Type 0
IsAccepted bytes c = first_failed (run_checks c bytes) ≡ 0

abbrev far-of : SlicesIterator → ℕ
far-of c = c.length - c.place

accepted-at : (bytes : List ℕ) (c : SlicesIterator) (q : ℕ) → IsAccepted bytes c → q ≤ c.length → IsAccepted bytes (slices_moved c q)
unfolding cursor_checks
accepted-at bytes c q e h = place-again (span_checks c.start c.length (length bytes)) c.place q c.length e h

module _ (bytes : List ℕ) (c : SlicesIterator) (ok : IsAccepted bytes c) where
  stepped : next_slice c bytes ≡ given (slice_step c (flags-in bytes c))
  unfolding next_slice
  stepped = sym (is-given 0 (first_failed (run_checks c bytes)) c (slice_step c (flags-in bytes c)) (sym ok) refl)

  long : length (flags-in bytes c) ≡ c.length
  long = length-window (flags_of bytes) c.start c.length

  to-run : (s n : ℕ) → run_start (flags-in bytes c) c.place ≡ s → leading_from true (flags-in bytes c) s ≡ n → s < c.length
      → slice_step c (flags-in bytes c) ≡ item (run_of s n) (slices_moved c (s + n))
  unfolding slice_step
  to-run s n e f h = rw (e, f, lt-ltb s c.length h)

  to_end : c.length ≤ run_start (flags-in bytes c) c.place → slice_step c (flags-in bytes c) ≡ ended (slices_moved c c.length)
  unfolding slice_step
  to_end h = rw (le-ltb (run_start (flags-in bytes c) c.place) c.length h)

  moves : Moves (answer-of bytes) (left-of bytes) (IsAccepted bytes) far-of c
  moves =
      let l : List Bool = flags-in bytes c in
      let s : ℕ = run_start l c.place in
      let n : ℕ = leading_from true l s in
      let size : length l ≡ c.length = long in ⊎_elim
      (λ (h : s < c.length).
      let f : FirstRun l c.place (run_of s n) = first_run_lem l c.place (omega arith) in
      gives (run_of s n) (slices_moved c (s + n)) (stepped ∙ ap given (to-run s n refl refl h))
      (accepted-at bytes c (s + n) ok (omega (arith, f.inside))) (omega (arith, f.inside, f.after, f.some))
      (next-lists c l size ∙ ap (listed l) (to-run s n refl refl h)))
      (λ (h : c.length ≤ s). ends (slices_moved c c.length) (stepped ∙ ap given (to_end h))
      (next-lists c l size ∙ ap (listed l) (to_end h)))
      (cases_lt s c.length)

-- A cursor that `next` accepts lists, until it returns none, exactly the runs at or after its place.
pub lists-runs : (bytes : List ℕ) (c : SlicesIterator) → first_failed (run_checks c bytes) ≡ 0 → (k : ℕ) → c.length - c.place < k
    → listing (λ (d : SlicesIterator). next_slice d bytes) k c ≡ runs_left (stretch bytes c.start c.length) c.place
lists-runs bytes c ok k h = lists (answer-of bytes) (left-of bytes) (IsAccepted bytes) far-of (moves bytes) k c ok h

-- So a new cursor lists all runs of its mask.
pub new-lists-runs : (m : Bitmap) (bytes : List ℕ) → first_failed (mask_checks m bytes) ≡ 0
    → listing (λ (d : SlicesIterator). next_slice d bytes) (suc m.length) (slices_at m.start m.length 0) ≡ runs_from 0 (mask_flags m bytes)
new-lists-runs m bytes e =
    lists-runs bytes (slices_at m.start m.length 0) (over-mask m bytes 0 e (omega arith)) (suc m.length) (omega arith)
    ∙ from_first (mask_flags m bytes)
