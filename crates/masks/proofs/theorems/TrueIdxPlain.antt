-- The plain reading of a cursor over ones: its calls list all positions of ones in rising order; without a mask every position.
use Rattle.std.specs.Prelude.{Option, Some, None, slice_get}
use Rattle.std.proofs.lemmas.Bool.{cases_lt}
use mathlib.Core.Path.{◌≡◌, refl, sym, ap, ◌∙◌, subst}
use mathlib.Core.Bool.{Bool, true, false, cond}
use mathlib.Core.List.{List, [], ◌∷◌, ◌++◌}
use mathlib.Core.Logic.{⊎_elim}
use Prim.Native.Nat.{ℕ, zero, suc, ◌+◌, ◌-◌, ◌≤◌, ◌<◌}
use native.Mathlib.Omega.{arith}
use lib.Dec.{eqb, leb}
use lib.ListN.{length, drop, get_or, length-drop, get_or-eq_default}
use lib.Seq.{drop-cons, drop-drop}
use borrow.Author.Tests.{eqb-true, lt-ltb}
use Rattle.words.specs.Flags.{copies, count}
use Rattle.words.specs.Nth.{nth_place}
use Rattle.words.proofs.nth.NthLaws.{nth-lt}
use Rattle.masks.specs.declared.bitmap.Bitmap.{Bitmap}
use Rattle.masks.specs.equations.Answer.{Answer, given}
use Rattle.masks.specs.Checks.{Check, check, earlier, first_failed, span_checks, within_limit}
use Rattle.masks.specs.Cursor.{Step, item, ended, cursor_checks}
use Rattle.masks.proofs.statements.Listing.{listing, AllOnes, no_one, one_at}
use Rattle.masks.specs.Mask.{count_valid, mask_checks}
use Rattle.masks.specs.Positions.{left_of}
use Rattle.masks.specs.Search.{nth_from}
use Rattle.masks.specs.TrueIdx.{new_true_checks, first_true, true_moved, true_flags, true_checks, true_step, ones_from}
use Rattle.masks.specs.equations.TrueIdx.{next_true}
use Rattle.masks.specs.TrueIdx.{ones_left}
use Rattle.masks.specs.declared.true_idx.TrueIdxIter.{TrueIdxIter}
use Rattle.masks.proofs.checks.CheckLaws.{both_left, both_right, check-allowed, is-given, passed-before}
use Rattle.masks.proofs.cursor.ListingLaws.{Moves, gives, ends, lists, place-accepted, place-again}
use Rattle.masks.proofs.theorems.SearchPlain.{forward-none}
use Rattle.masks.proofs.true_idx.TrueIdxLaws.{flags-length}

-- ---- one more flag

no-flags : (k : ℕ) (l : List Bool) → length l ≡ 0 → ones_from k l ≡ []
unfolding ones_from
no-flags k [] h = refl
no-flags k (x ∷ l) h = absurd (omega arith)

pub past_ones : (l : List Bool) (p : ℕ) → length l ≤ p → ones_left l p ≡ []
unfolding ones_left
past_ones l p h = no-flags p (drop p l) (omega (arith, length-drop p l))

a-zero : (k : ℕ) (l : List Bool) → ones_from k (false ∷ l) ≡ ones_from (suc k) l
unfolding ones_from
a-zero k l = refl

a_one : (k : ℕ) (l : List Bool) → ones_from k (true ∷ l) ≡ k ∷ ones_from (suc k) l
unfolding ones_from
a_one k l = refl

first-flag : (l : List Bool) (p : ℕ) (x : Bool) → p < length l → get_or l p false ≡ x → drop p l ≡ x ∷ drop (suc p) l
first-flag l p x h e = drop-cons l p false h ∙ ap (λ (y : Bool). y ∷ drop (suc p) l) e

pub over_zero : (l : List Bool) (p : ℕ) → p < length l → get_or l p false ≡ false → ones_left l p ≡ ones_left l (suc p)
unfolding ones_left
over_zero l p h e = ap (ones_from p) (first-flag l p false h e) ∙ a-zero p (drop (suc p) l)

pub at_one : (l : List Bool) (p : ℕ) → p < length l → get_or l p false ≡ true → ones_left l p ≡ p ∷ ones_left l (suc p)
unfolding ones_left
at_one l p h e = ap (ones_from p) (first-flag l p true h e) ∙ a_one p (drop (suc p) l)

-- ---- the list of positions has all ones, in rising order

zero-before : {l : List Bool} {p : ℕ} {is : List ℕ} → get_or l p false ≡ false → AllOnes l (suc p) is → AllOnes l p is
zero-before {l} {p} e (no_one z) = no_one (λ (j : ℕ) (h : p ≤ j). ⊎_elim
    (λ (b : j < suc p). let same : j ≡ p = omega arith in ap (λ (x : ℕ). get_or l x false) same ∙ e)
    (λ (b : suc p ≤ j). z j b)
    (cases_lt j (suc p)))
zero-before {l} {p} e (one_at {i = i} low z one more) = one_at {p = p} {i = i} (omega arith)
    (λ (j : ℕ) (h : p ≤ j) (k : j < i). ⊎_elim
    (λ (b : j < suc p). let same : j ≡ p = omega arith in ap (λ (x : ℕ). get_or l x false) same ∙ e)
    (λ (b : suc p ≤ j). z j b k)
    (cases_lt j (suc p)))
    one more

ones-from : (k : ℕ) (l : List Bool) (p : ℕ) → length l - p < k → AllOnes l p (ones_left l p)
ones-from zero l p h = absurd (omega arith)
ones-from (suc k) l p h = ⊎_elim
    (λ (b : p < length l). by_flag (get_or l p false) refl b (ones-from k l (suc p) (omega arith)))
    (λ (b : length l ≤ p).
    subst (AllOnes l p) (sym (past_ones l p b)) (no_one (λ (j : ℕ) (i : p ≤ j). get_or-eq_default l false (omega arith))))
    (cases_lt p (length l))
  where
    by_flag : (x : Bool) → get_or l p false ≡ x → p < length l → AllOnes l (suc p) (ones_left l (suc p)) → AllOnes l p (ones_left l p)
    by_flag true e b more =
        subst (AllOnes l p) (sym (at_one l p b e))
        (one_at {p = p} {i = p} (omega arith) (λ (j : ℕ) (i : p ≤ j) (o : j < p). absurd (omega arith)) e more)
    by_flag false e b more = subst (AllOnes l p) (sym (over_zero l p b e)) (zero-before e more)

pub all_ones_lem : (l : List Bool) (p : ℕ) → AllOnes l p (ones_left l p)
all_ones_lem l p = ones-from (suc (length l)) l p (omega arith)

-- ---- call by call

first_one : (k : ℕ) (m : List Bool) → 0 < count m
    → ones_from k m ≡ (k + nth_place m 0) ∷ ones_from (k + suc (nth_place m 0)) (drop (suc (nth_place m 0)) m)
unfolding ones_from nth_place count
first_one k [] h = absurd (omega arith)
first_one k (true ∷ m) h =
    let e : k ≡ k + 0 = omega arith in
    let f : suc k ≡ k + 1 = omega arith in
    ap (λ (x : ℕ). x ∷ ones_from (suc k) m) e ∙ ap (λ (x : ℕ). (k + 0) ∷ ones_from x m) f
first_one k (false ∷ m) h =
    let e : suc k + nth_place m 0 ≡ k + suc (nth_place m 0) = omega arith in
    let f : suc k + suc (nth_place m 0) ≡ k + suc (suc (nth_place m 0)) = omega arith in
    first_one (suc k) m (omega arith)
    ∙ ap (λ (x : ℕ). x ∷ ones_from (suc k + suc (nth_place m 0)) (drop (suc (nth_place m 0)) m)) e
    ∙ ap (λ (x : ℕ). (k + suc (nth_place m 0)) ∷ ones_from x (drop (suc (nth_place m 0)) m)) f

none-set : (k : ℕ) (m : List Bool) → count m ≡ 0 → ones_from k m ≡ []
unfolding ones_from count
none-set k [] h = refl
none-set k (true ∷ m) h = absurd (omega arith)
none-set k (false ∷ m) h = none-set (suc k) m (omega arith)

-- the position of the first one at or after a place
abbrev first : List Bool → ℕ → ℕ
first l place = place + nth_place (drop place l) 0

found : (l : List Bool) (place : ℕ) → 0 < count (drop place l) → nth_from l 0 place ≡ Some (first l place)
unfolding nth_from
found l place h = rw (lt-ltb 0 (count (drop place l)) h)

found_inside : (l : List Bool) (place : ℕ) → 0 < count (drop place l) → first l place < length l
found_inside l place h = omega (arith, nth-lt (drop place l) 0 h, length-drop place l)

found_left : (l : List Bool) (place : ℕ) → 0 < count (drop place l) → ones_left l place ≡ first l place ∷ ones_left l (first l place + 1)
unfolding ones_left
found_left l place h =
    let x : ℕ = nth_place (drop place l) 0 in
    let e : place + suc x ≡ first l place + 1 = omega arith in
    first_one place (drop place l) h ∙ ap (λ (t : List Bool). first l place ∷ ones_from (place + suc x) t) (drop-drop (suc x) place l)
    ∙ ap (λ (y : ℕ). first l place ∷ ones_from y (drop y l)) e

none_left : (l : List Bool) (place : ℕ) → count (drop place l) ≡ 0 → ones_left l place ≡ []
unfolding ones_left
none_left l place h = none-set place (drop place l) h

pub accepted-at : (c : TrueIdxIter) (size q : ℕ) → first_failed (true_checks c size) ≡ 0 → q ≤ c.length
    → first_failed (true_checks (true_moved c q) size) ≡ 0
unfolding true_checks cursor_checks
accepted-at c size q e h = go c.masked e
  where
    go : (t : Bool)
        → first_failed (cond t (span_checks c.start c.length size ++ (check 6 (leb c.place c.length) ∷ []))
        (within_limit c.start ∷ within_limit c.length ∷ check 6 (leb c.place c.length) ∷ [])) ≡ 0
        → first_failed (cond t (span_checks c.start c.length size ++ (check 6 (leb q c.length) ∷ []))
        (within_limit c.start ∷ within_limit c.length ∷ check 6 (leb q c.length) ∷ [])) ≡ 0
    go true e = place-again (span_checks c.start c.length size) c.place q c.length e h
    go false e = place-again (within_limit c.start ∷ within_limit c.length ∷ []) c.place q c.length e h

same_flags_lem : (c : TrueIdxIter) (bytes : List ℕ) (q : ℕ) → true_flags (true_moved c q) bytes ≡ true_flags c bytes
unfolding true_flags
same_flags_lem c bytes q = refl

-- the answer of `next`, and the positions that the cursor has left
abbrev pub answer-of : List ℕ → TrueIdxIter → Answer TrueIdxIter (Step TrueIdxIter ℕ)
answer-of bytes c = next_true c bytes

abbrev pub left-of : List ℕ → TrueIdxIter → List ℕ
left-of bytes c = left_of c bytes

abbrev pub IsAccepted : List ℕ → TrueIdxIter → Type 0
IsAccepted bytes c = first_failed (true_checks c (length bytes)) ≡ 0

abbrev far-of : TrueIdxIter → ℕ
far-of c = c.length - c.place

-- one call returns the first position that is left, and a cursor with the others left; or none, if nothing is left
pub data NextOne (bytes : List ℕ) (c : TrueIdxIter) : Type 0 where
  one-next : (p : ℕ) → c.place ≤ p → p < c.length → next_true c bytes ≡ given (item p (true_moved c (p + 1)))
      → IsAccepted bytes (true_moved c (p + 1))
      → left-of bytes c ≡ p ∷ left-of bytes (true_moved c (p + 1)) → NextOne bytes c
  none-next : next_true c bytes ≡ given (ended (true_moved c c.length)) → left-of bytes c ≡ [] → NextOne bytes c

module _ (bytes : List ℕ) (c : TrueIdxIter) (ok : IsAccepted bytes c) where
  stepped : next_true c bytes ≡ given (true_step c (nth_from (true_flags c bytes) 0 c.place))
  unfolding next_true
  stepped =
      sym (is-given 0 (first_failed (true_checks c (length bytes))) c (true_step c (nth_from (true_flags c bytes) 0 c.place)) (sym ok) refl)

  to_item : (p : ℕ) → nth_from (true_flags c bytes) 0 c.place ≡ Some p → next_true c bytes ≡ given (item p (true_moved c (p + 1)))
  unfolding true_step
  to_item p e = stepped ∙ ap (λ (o : Option ℕ). given (true_step c o)) e

  to_end : nth_from (true_flags c bytes) 0 c.place ≡ None → next_true c bytes ≡ given (ended (true_moved c c.length))
  unfolding true_step
  to_end e = stepped ∙ ap (λ (o : Option ℕ). given (true_step c o)) e

  pub next_one : NextOne bytes c
  next_one =
      let l : List Bool = true_flags c bytes in
      let n : length l ≡ c.length = flags-length c bytes in ⊎_elim
      (λ (h : 0 < count (drop c.place l)).
      let p : ℕ = first l c.place in
      let b : p < length l = found_inside l c.place h in
      one-next p (omega arith) (omega arith) (to_item p (found l c.place h)) (accepted-at c (length bytes) (p + 1) ok (omega arith))
      (found_left l c.place h ∙ ap (λ (t : List Bool). p ∷ ones_left t (p + 1)) (sym (same_flags_lem c bytes (p + 1)))))
      (λ (h : count (drop c.place l) ≤ 0). none-next (to_end (forward-none l 0 c.place h)) (none_left l c.place (omega arith)))
      (cases_lt 0 (count (drop c.place l)))

moves : (bytes : List ℕ) (c : TrueIdxIter) → IsAccepted bytes c → Moves (answer-of bytes) (left-of bytes) (IsAccepted bytes) far-of c
moves bytes c ok = go (next_one bytes c ok)
  where
    go : NextOne bytes c → Moves (answer-of bytes) (left-of bytes) (IsAccepted bytes) far-of c
    go (one-next p low high e o f) = gives p (true_moved c (p + 1)) e o (omega arith) f
    go (none-next e f) = ends (true_moved c c.length) e f

-- A cursor that `next` accepts lists, until it returns none, exactly the positions of ones at or after its place, in rising order.
pub lists-ones : (bytes : List ℕ) (c : TrueIdxIter) → first_failed (true_checks c (length bytes)) ≡ 0 → (k : ℕ) → c.length - c.place < k
    → listing (λ (d : TrueIdxIter). next_true d bytes) k c ≡ ones_left (true_flags c bytes) c.place
lists-ones bytes c ok k h = lists (answer-of bytes) (left-of bytes) (IsAccepted bytes) far-of (moves bytes) k c ok h

from_first : (l : List Bool) → ones_left l 0 ≡ ones_from 0 l
unfolding ones_left
from_first l = refl

zero-limit : 0 ≡ first_failed (within_limit 0 ∷ [])
unfolding first_failed earlier
zero-limit = refl

-- If `new` accepts its arguments, `next` accepts the cursor.
accepted-new : (n : ℕ) (mask : Option Bitmap) (bytes : List ℕ) → first_failed (new_true_checks n mask bytes) ≡ 0
    → IsAccepted bytes (first_true n mask)
unfolding new_true_checks first_true true_checks cursor_checks mask_checks
accepted-new n (Some m) bytes e =
    let five : List Check = check 5 (eqb n m.length) ∷ [] in
    let rest : first_failed (mask_checks m bytes ++ five) ≡ 0 = both_right (within_limit n ∷ []) (mask_checks m bytes ++ five) e in
    let same : n ≡ m.length = eqb-true n m.length (check-allowed 4 (eqb n m.length) (both_right (mask_checks m bytes) five rest)) in
    let span : first_failed (span_checks m.start m.length (length bytes)) ≡ 0 =
    both_left (span_checks m.start m.length (length bytes)) (check 3 (count_valid m bytes) ∷ [])
    (both_left (mask_checks m bytes) five rest) in
    place-accepted (span_checks m.start n (length bytes)) 0 n
    (ap (λ (k : ℕ). first_failed (span_checks m.start k (length bytes))) same ∙ span) (omega arith)
accepted-new n None bytes e =
    place-accepted (within_limit 0 ∷ within_limit n ∷ []) 0 n
    (sym (passed-before (within_limit 0 ∷ []) (within_limit n ∷ []) 0 0 zero-limit refl (sym e))) (omega arith)

-- So a new cursor lists all positions of ones.
pub new-lists-ones : (n : ℕ) (mask : Option Bitmap) (bytes : List ℕ) → first_failed (new_true_checks n mask bytes) ≡ 0
    → listing (λ (d : TrueIdxIter). next_true d bytes) (suc n) (first_true n mask) ≡ ones_from 0 (true_flags (first_true n mask) bytes)
unfolding first_true
new-lists-ones n (Some m) bytes e =
    lists-ones bytes (first_true n (Some m)) (accepted-new n (Some m) bytes e) (suc n) (omega arith)
    ∙ from_first (true_flags (first_true n (Some m)) bytes)
new-lists-ones n None bytes e =
    lists-ones bytes (first_true n None) (accepted-new n None bytes e) (suc n) (omega arith)
    ∙ from_first (true_flags (first_true n None) bytes)

-- ---- without a mask

pub unmasked : (c : TrueIdxIter) (bytes : List ℕ) → c.masked ≡ false → true_flags c bytes ≡ copies c.length true
unfolding true_flags
unmasked c bytes e = rw e

-- position i of n ones that begin at k is k + i
pub each-position : (k n i : ℕ) → i < n → slice_get (ones_from k (copies n true)) i ≡ Some (k + i)
unfolding ones_from copies
each-position k zero i h = absurd (omega arith)
each-position k (suc n) zero h = let e : k ≡ k + 0 = omega arith in ap Some e
each-position k (suc n) (suc i) h = let e : suc k + i ≡ k + suc i = omega arith in each-position (suc k) n i (omega arith) ∙ ap Some e
