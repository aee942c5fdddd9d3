-- The runs of every list of flags are a run list, and each run list is that of exactly one list of flags.
use Rattle.std.proofs.lemmas.Bool.{and_parts}
use mathlib.Core.Path.{◌≡◌, refl, sym, ap, ◌∙◌, subst}
use mathlib.Core.Bool.{Bool, true, false}
use mathlib.Core.List.{List, [], ◌∷◌, ◌++◌, append-nil}
use Prim.Native.Nat.{ℕ, zero, suc, ◌+◌, ◌-◌, ◌≤◌, ◌<◌}
use native.Mathlib.Omega.{arith}
use lib.Dec.{eqb}
use lib.ListN.{length, length-append}
use borrow.Author.Tests.{eq-eqb, eqb-true, eqb-false, le-leb, leb-true, lt-ltb, ltb-true}
use Rattle.words.specs.Flags.{copies}
use Rattle.words.proofs.flags.Windows.{length-copies}
use Rattle.masks.specs.SliceIterator.{run_of, runs_from, with_one}
use Rattle.masks.specs.declared.slice_iterator.Run.{Run}
use Rattle.masks.proofs.theorems.RunsPlain.{stands-off}
use Rattle.histories.proofs.statements.RunLists.{HasRuns, RunList, every_run, is_apart, is_clear, is_inside, is_long}

-- ---- run lists, run by run

-- A run list inside n flags that starts at flag p or later: each run is at least one flag long and ends at n or before; the runs
-- rise, and at least one flag lies between two neighbours.
pub data RunsIn (n : ℕ) : ℕ → List Run → Type 0 where
  no_more : {p : ℕ} → RunsIn n p []
  then-run : {p : ℕ} {r : Run} {more : List Run} → p ≤ r.start → 0 < r.length → r.start + r.length ≤ n
      → RunsIn n (suc (r.start + r.length)) more → RunsIn n p (r ∷ more)

-- the first run, if there is one, begins at p or later
abbrev FirstAt : ℕ → List Run → Type 0
FirstAt p [] = Unit {0}
FirstAt p (r ∷ rs) = p ≤ r.start

clear_first : (r : Run) (rs : List Run) → is_clear r rs ≡ true → FirstAt (suc (r.start + r.length)) rs
clear_first r [] e = tt
clear_first r (s ∷ rs) e = omega (arith, ltb-true (r.start + r.length) _ e)

long-run : (r : Run) → is_long r ≡ true → 0 < r.length
long-run r e = omega (arith, leb-true _ r.length e)

inside-run : (n : ℕ) (r : Run) → is_inside n r ≡ true → r.start + r.length ≤ n
inside-run n r e = omega (arith, leb-true (r.start + r.length) _ e)

-- runs that pass the tests of `RunList` are such a list,
tested : (n p : ℕ) (rs : List Run) → FirstAt p rs → every_run is_long rs ≡ true → is_apart rs ≡ true → every_run (is_inside n) rs ≡ true
    → RunsIn n p rs
unfolding every_run is_apart
tested n p [] f a b c = no_more
tested n p (r ∷ rs) f a b c =
    then-run {p = p} {r = r} f
    (long-run r (and_parts _ _ a).0) (inside-run n r (and_parts _ _ c).0)
    (tested n (suc (r.start + r.length)) rs (clear_first r rs (and_parts _ _ b).0)
    (and_parts _ _ a).1 (and_parts _ _ b).1
    (and_parts _ _ c).1)

any-first : (rs : List Run) → FirstAt 0 rs
any-first [] = tt
any-first (r ∷ rs) = omega arith

pub run-by-run : (n : ℕ) (rs : List Run) → RunList n rs → RunsIn n 0 rs
run-by-run n rs h = tested n 0 rs (any-first rs) h.long h.apart h.inside

-- and such a list passes the tests
is-clear : {n : ℕ} (r : Run) (more : List Run) → RunsIn n (suc (r.start + r.length)) more → is_clear r more ≡ true
is-clear r [] no_more = refl
is-clear r (s ∷ rs) (then-run a b d e) = lt-ltb (r.start + r.length) s.start (omega arith)

all-long : {n p : ℕ} {rs : List Run} → RunsIn n p rs → every_run is_long rs ≡ true
unfolding every_run
all-long no_more = refl
all-long (then-run {r = r} a b d e) = rw (le-leb 1 r.length (omega arith)) (all-long e)

all_apart : {n p : ℕ} {rs : List Run} → RunsIn n p rs → is_apart rs ≡ true
unfolding is_apart
all_apart no_more = refl
all_apart (then-run {r = r} {more = more} a b d e) = rw (is-clear r more e) (all_apart e)

all-inside : {n p : ℕ} {rs : List Run} → RunsIn n p rs → every_run (is_inside n) rs ≡ true
unfolding every_run
all-inside no_more = refl
all-inside {n} (then-run {r = r} a b d e) = rw (le-leb (r.start + r.length) n d) (all-inside e)

pub in-tests : (n : ℕ) (rs : List Run) → RunsIn n 0 rs → RunList n rs
in-tests n rs h = record { long = all-long h; apart = all_apart h; inside = all-inside h }

-- a run list that starts at p or later starts at q or later, if q is at most p
weaker : {n p q : ℕ} {rs : List Run} → q ≤ p → RunsIn n p rs → RunsIn n q rs
weaker h no_more = no_more
weaker {q = q} h (then-run {r = r} a b d e) = then-run {p = q} {r = r} (omega arith) b d e

-- ---- a one before the runs that follow it

joins : (k : ℕ) (r : Run) (rs : List Run) → r.start ≡ suc k → with_one k (r ∷ rs) ≡ run_of k (suc r.length) ∷ rs
unfolding with_one
joins k r rs h = rw (eq-eqb r.start (suc k) h)

-- a one with a zero between it and the next run is a run of its own
single : {n : ℕ} (k p : ℕ) {rs : List Run} → suc k < p → RunsIn n p rs → with_one k rs ≡ run_of k 1 ∷ rs
unfolding with_one
single k p h no_more = refl
single k p h (then-run {r = r} {more = more} a b d e) = stands-off k r more (λ (z : r.start ≡ suc k). omega arith)

off : (s k : ℕ) → suc k ≤ s → (s ≡ suc k → ⊥) → suc (k + 1) ≤ s
off s k a h = omega arith

one-joined : {n : ℕ} (k : ℕ) (r : Run) (more : List Run) (t : Bool) → eqb r.start (suc k) ≡ t → suc k ≤ r.start → 0 < r.length
    → r.start + r.length ≤ n → RunsIn n (suc (r.start + r.length)) more → RunsIn n k (with_one k (r ∷ more))
one-joined {n} k r more true q a b d e =
    let s : r.start ≡ suc k = eqb-true r.start (suc k) q in
    let g : suc (r.start + r.length) ≡ suc (k + suc r.length) = omega arith in
    rw (joins k r more s) (then-run {p = k} {r = run_of k (suc r.length)} (omega arith) (omega arith) (omega arith)
    (subst (λ (x : ℕ). RunsIn n x more) g e))
one-joined {n} k r more false q a b d e =
    let apart = eqb-false r.start (suc k) q in
    rw (stands-off k r more apart)
    (then-run {p = k} {r = run_of k 1} (omega arith) (omega arith) (omega arith)
    (then-run {p = suc (k + 1)} {r = r} (off r.start k a apart) b d e))

one_more : {n k : ℕ} {rs : List Run} → k < n → RunsIn n (suc k) rs → RunsIn n k (with_one k rs)
unfolding with_one
one_more {n} {k} h no_more = then-run {p = k} {r = run_of k 1} (omega arith) (omega arith) (omega arith) no_more
one_more {n} {k} h (then-run {r = r} {more = more} a b d e) = one-joined k r more (eqb r.start (suc k)) refl a b d e

pub runs-in : (k n : ℕ) (l : List Bool) → n ≡ k + length l → RunsIn n k (runs_from k l)
unfolding runs_from
runs-in k n [] e = no_more
runs-in k n (false ∷ l) e = weaker (omega arith) (runs-in (suc k) n l (omega arith))
runs-in k n (true ∷ l) e = one_more (omega arith) (runs-in (suc k) n l (omega arith))

-- ---- the flags of a run list

-- the flags k up to n: before each run its gap of zeros, then its ones, and zeros for the rest
unfoldable pub laid_out : ℕ → ℕ → List Run → List Bool
laid_out k n [] = copies (n - k) false
laid_out k n (r ∷ rs) = copies (r.start - k) false ++ (copies r.length true ++ laid_out (r.start + r.length) n rs)

-- ---- a list is laid out again from its runs

copies-less : (a b : ℕ) (x : Bool) → a ≡ suc b → copies a x ≡ x ∷ copies b x
unfolding copies
copies-less a b x e = rw e

pub copies-none : (a : ℕ) (x : Bool) → a ≡ 0 → copies a x ≡ []
unfolding copies
copies-none a x e = rw e

zero-first : {n k : ℕ} {rs : List Run} → k < n → RunsIn n (suc k) rs → laid_out k n rs ≡ false ∷ laid_out (suc k) n rs
unfolding laid_out
zero-first {n} {k} h no_more = copies-less (n - k) (n - suc k) false (omega arith)
zero-first {n} {k} h (then-run {r = r} {more = more} a b d e) =
    ap (λ (x : List Bool). x ++ (copies r.length true ++ laid_out (r.start + r.length) n more))
    (copies-less (r.start - k) (r.start - suc k) false (omega arith))

at_once : (n k : ℕ) (r : Run) (rs : List Run) → r.start ≡ k
    → laid_out k n (r ∷ rs) ≡ copies r.length true ++ laid_out (r.start + r.length) n rs
unfolding laid_out
at_once n k r rs e =
    ap (λ (x : List Bool). x ++ (copies r.length true ++ laid_out (r.start + r.length) n rs))
    (copies-none (r.start - k) false (omega arith))

one-first : (n k : ℕ) (rs : List Run) → laid_out k n (run_of k 1 ∷ rs) ≡ true ∷ laid_out (suc k) n rs
unfolding copies
one-first n k rs =
    let e : k + 1 ≡ suc k = omega arith in
    at_once n k (run_of k 1) rs refl ∙ ap (λ (x : ℕ). true ∷ laid_out x n rs) e

longer-first : (n k : ℕ) (r : Run) (rs : List Run) → r.start ≡ suc k
    → laid_out k n (run_of k (suc r.length) ∷ rs) ≡ true ∷ laid_out (suc k) n (r ∷ rs)
unfolding copies
longer-first n k r rs h =
    let e : k + suc r.length ≡ r.start + r.length = omega arith in
    at_once n k (run_of k (suc r.length)) rs refl ∙ ap (λ (x : ℕ). true ∷ (copies r.length true ++ laid_out x n rs)) e
    ∙ ap (λ (x : List Bool). true ∷ x) (sym (at_once n (suc k) r rs h))

one-laid : (n k : ℕ) (r : Run) (more : List Run) (t : Bool) → eqb r.start (suc k) ≡ t
    → laid_out k n (with_one k (r ∷ more)) ≡ true ∷ laid_out (suc k) n (r ∷ more)
one-laid n k r more true q =
    let s : r.start ≡ suc k = eqb-true r.start (suc k) q in ap (laid_out k n) (joins k r more s) ∙ longer-first n k r more s
one-laid n k r more false q = ap (laid_out k n) (stands-off k r more (eqb-false r.start (suc k) q)) ∙ one-first n k (r ∷ more)

with-one : (n k : ℕ) (rs : List Run) → laid_out k n (with_one k rs) ≡ true ∷ laid_out (suc k) n rs
unfolding with_one
with-one n k [] = one-first n k []
with-one n k (r ∷ more) = one-laid n k r more (eqb r.start (suc k)) refl

none-laid : (k n : ℕ) → n ≡ k → laid_out k n [] ≡ []
unfolding laid_out
none-laid k n e = copies-none (n - k) false (omega arith)

back : (k n : ℕ) (l : List Bool) → n ≡ k + length l → laid_out k n (runs_from k l) ≡ l
unfolding runs_from
back k n [] e = none-laid k n (omega arith)
back k n (false ∷ l) e =
    zero-first (omega arith) (runs-in (suc k) n l (omega arith)) ∙ ap (λ (x : List Bool). false ∷ x) (back (suc k) n l (omega arith))
back k n (true ∷ l) e = with-one n k (runs_from (suc k) l) ∙ ap (λ (x : List Bool). true ∷ x) (back (suc k) n l (omega arith))

-- `laid_out` is the one list of n flags with these runs
pub laid_same : (n : ℕ) (rs : List Run) (l : List Bool) → HasRuns n rs l → laid_out 0 n rs ≡ l
laid_same n rs l h = ap (laid_out 0 n) (sym h.runs) ∙ back 0 n l (omega (arith, h.long))

-- ---- a run list's flags have these runs

zeros-passed : (k j : ℕ) (t : List Bool) → runs_from k (copies j false ++ t) ≡ runs_from (k + j) t
unfolding runs_from copies
zeros-passed k zero t = let e : k ≡ k + 0 = omega arith in ap (λ (x : ℕ). runs_from x t) e
zeros-passed k (suc j) t =
    let e : suc k + j ≡ k + suc j = omega arith in zeros-passed (suc k) j t ∙ ap (λ (x : ℕ). runs_from x t) e

ones-taken : {n : ℕ} (k j : ℕ) (t : List Bool) (more : List Run) → RunsIn n (suc (k + suc j)) more → runs_from (k + suc j) t ≡ more
    → runs_from k (copies (suc j) true ++ t) ≡ run_of k (suc j) ∷ more
unfolding runs_from copies
ones-taken k zero t more h e =
    let i : suc k ≡ k + 1 = omega arith in
    ap (with_one k) (ap (λ (x : ℕ). runs_from x t) i ∙ e) ∙ single k (suc (k + 1)) (omega arith) h
ones-taken {n} k (suc j) t more h e =
    let i : suc k + suc j ≡ k + suc (suc j) = omega arith in
    let i' : suc (k + suc (suc j)) ≡ suc (suc k + suc j) = omega arith in
    ap (with_one k) (ones-taken (suc k) j t more (subst (λ (x : ℕ). RunsIn n x more) i' h) (ap (λ (x : ℕ). runs_from x t) i ∙ e))
    ∙ joins k (run_of (suc k) (suc j)) more refl

run-taken : {n : ℕ} (r : Run) (t : List Bool) (more : List Run) → 0 < r.length → RunsIn n (suc (r.start + r.length)) more
    → runs_from (r.start + r.length) t ≡ more → runs_from r.start (copies r.length true ++ t) ≡ r ∷ more
run-taken {n} r t more h a e =
    let i : r.length ≡ suc (r.length - 1) = omega arith in
    ap (λ (x : ℕ). runs_from r.start (copies x true ++ t)) i
    ∙ ones-taken r.start (r.length - 1) t more (subst (λ (x : ℕ). RunsIn n (suc (r.start + x)) more) i a)
    (ap (λ (x : ℕ). runs_from (r.start + x) t) (sym i) ∙ e)
    ∙ ap (λ (x : ℕ). run_of r.start x ∷ more) (sym i)

only-zeros : (k j : ℕ) → runs_from k (copies j false) ≡ []
unfolding runs_from
only-zeros k j = ap (runs_from k) (sym (append-nil (copies j false))) ∙ zeros-passed k j []

runs-back : {n p : ℕ} {rs : List Run} → RunsIn n p rs → (q : ℕ) → q ≤ p → runs_from q (laid_out q n rs) ≡ rs
unfolding laid_out
runs-back {n} no_more q h = only-zeros q (n - q)
runs-back {n} {p} (then-run {r = r} {more = more} a b d e) q h =
    let t : List Bool = laid_out (r.start + r.length) n more in
    let i : q + (r.start - q) ≡ r.start = omega arith in
    zeros-passed q (r.start - q) (copies r.length true ++ t) ∙ ap (λ (x : ℕ). runs_from x (copies r.length true ++ t)) i
    ∙ run-taken r t more b e (runs-back e (r.start + r.length) (omega arith))

long-back : {n p : ℕ} {rs : List Run} → RunsIn n p rs → (q : ℕ) → q ≤ p → q ≤ n → length (laid_out q n rs) ≡ n - q
unfolding laid_out
long-back {n} no_more q h g = length-copies (n - q) false
long-back {n} {p} (then-run {r = r} {more = more} a b d e) q h g =
    let t : List Bool = laid_out (r.start + r.length) n more in
    omega (
      arith,
      length-append (copies (r.start - q) false) (copies r.length true ++ t),
      length-append (copies r.length true) t,
      length-copies (r.start - q) false,
      length-copies r.length true,
      long-back e (r.start + r.length) (omega arith) d,
    )

pub laid-has : (n : ℕ) (rs : List Run) → RunsIn n 0 rs → HasRuns n rs (laid_out 0 n rs)
laid-has n rs h =
    let e : n - 0 ≡ n = omega arith in
    record { long = long-back h 0 (omega arith) (omega arith) ∙ e; runs = runs-back h 0 (omega arith) }
