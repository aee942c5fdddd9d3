-- The searches agree with the cursor over ones: forward, the n-th position that the cursor returns; down from an end, the n-th
-- from the last of the positions below it.
use Rattle.std.specs.Prelude.{Some, slice_get}
use Rattle.std.proofs.lemmas.Bool.{cases_lt}
use Rattle.std.proofs.lemmas.Option.{slice_get_past}
use mathlib.Core.Path.{◌≡◌, refl, sym, ap, ◌∙◌}
use mathlib.Core.Bool.{Bool, true, false}
use mathlib.Core.List.{List, [], ◌∷◌, ◌++◌, reverse, reverse-cons}
use mathlib.Core.Logic.{⊎_elim}
use Prim.Native.Nat.{ℕ, zero, suc, ◌+◌, ◌-◌, ◌≤◌, ◌<◌}
use native.Mathlib.Omega.{arith}
use lib.ListN.{length, take, drop, length-reverse}
use borrow.Author.Tests.{lt-ltb}
use Rattle.words.specs.Flags.{count}
use Rattle.words.specs.Nth.{nth_place}
use Rattle.masks.specs.Checks.{first_failed}
use Rattle.masks.proofs.statements.Listing.{listing}
use Rattle.masks.specs.Search.{nth_from, nth_back}
use Rattle.masks.specs.TrueIdx.{true_flags, true_checks, ones_from, ones_left}
use Rattle.masks.specs.equations.TrueIdx.{next_true}
use Rattle.masks.specs.declared.true_idx.TrueIdxIter.{TrueIdxIter}
use Rattle.masks.proofs.theorems.SearchPlain.{forward-none, backward-none}
use Rattle.masks.proofs.theorems.TrueIdxPlain.{lists-ones}

-- ---- element n of a list

in-first : (xs ys : List ℕ) (n : ℕ) → n < length xs → slice_get (xs ++ ys) n ≡ slice_get xs n
in-first [] ys n h = absurd (omega arith)
in-first (x ∷ xs) ys zero h = refl
in-first (x ∷ xs) ys (suc n) h = in-first xs ys n (omega arith)

just_behind : (xs : List ℕ) (y n : ℕ) → n ≡ length xs → slice_get (xs ++ (y ∷ [])) n ≡ Some y
just_behind [] y zero h = refl
just_behind [] y (suc n) h = absurd (omega arith)
just_behind (x ∷ xs) y zero h = absurd (omega arith)
just_behind (x ∷ xs) y (suc n) h = just_behind xs y n (omega arith)

from_last : (xs : List ℕ) (n : ℕ) → n < length xs → slice_get (reverse xs) n ≡ slice_get xs (length xs - 1 - n)
from_last [] n h = absurd (omega arith)
from_last (x ∷ xs) n h = ap (λ (t : List ℕ). slice_get t n) (reverse-cons x xs) ∙ ⊎_elim
    (λ (b : n < length xs).
    let e : suc (length xs - 1 - n) ≡ suc (length xs) - 1 - n = omega arith in
    in-first (reverse xs) (x ∷ []) n (omega (arith, length-reverse xs)) ∙ from_last xs n b ∙ ap (slice_get (x ∷ xs)) e)
    (λ (b : length xs ≤ n).
    let e : 0 ≡ suc (length xs) - 1 - n = omega arith in
    just_behind (reverse xs) x n (omega (arith, length-reverse xs)) ∙ ap (slice_get (x ∷ xs)) e)
    (cases_lt n (length xs))

-- ---- element n of the positions of ones

how-many : (k : ℕ) (l : List Bool) → length (ones_from k l) ≡ count l
unfolding ones_from count
how-many k [] = refl
how-many k (true ∷ l) = omega (arith, how-many (suc k) l)
how-many k (false ∷ l) = omega (arith, how-many (suc k) l)

the_nth : (k : ℕ) (l : List Bool) (n : ℕ) → n < count l → slice_get (ones_from k l) n ≡ Some (k + nth_place l n)
unfolding ones_from count nth_place
the_nth k [] n h = absurd (omega arith)
the_nth k (true ∷ l) zero h = let e : k ≡ k + 0 = omega arith in ap Some e
the_nth k (true ∷ l) (suc n) h =
    let e : suc k + nth_place l n ≡ k + suc (nth_place l n) = omega arith in the_nth (suc k) l n (omega arith) ∙ ap Some e
the_nth k (false ∷ l) n h =
    let e : suc k + nth_place l n ≡ k + suc (nth_place l n) = omega arith in the_nth (suc k) l n (omega arith) ∙ ap Some e

-- ---- the searches

-- the n-th set flag at or after a place is element n of the positions of ones there; none if there are fewer
pub forward-nth : (l : List Bool) (n from : ℕ) → nth_from l n from ≡ slice_get (ones_left l from) n
unfolding nth_from ones_left
forward-nth l n from = ⊎_elim
    (λ (h : n < count (drop from l)). rw (lt-ltb n (count (drop from l)) h) (sym (the_nth from (drop from l) n h)))
    (λ (h : count (drop from l) ≤ n).
    forward-none l n from h ∙ sym (slice_get_past (ones_from from (drop from l)) n (omega (arith, how-many from (drop from l)))))
    (cases_lt n (count (drop from l)))

-- so it is the n-th item of the cursor at that place
pub forward-item : (bytes : List ℕ) (c : TrueIdxIter) → first_failed (true_checks c (length bytes)) ≡ 0 → (n k : ℕ) → c.length - c.place < k
    → nth_from (true_flags c bytes) n c.place ≡ slice_get (listing (λ (d : TrueIdxIter). next_true d bytes) k c) n
forward-item bytes c ok n k h =
    forward-nth (true_flags c bytes) n c.place ∙ ap (λ (t : List ℕ). slice_get t n) (sym (lists-ones bytes c ok k h))

-- the n-th set flag counted down from below an end is element n, counted from the last, of the positions of ones below it
pub backward-nth : (l : List Bool) (n end : ℕ) → nth_back l n end ≡ slice_get (reverse (ones_from 0 (take end l))) n
unfolding nth_back
backward-nth l n end =
    let m : List Bool = take end l in
    let ps : List ℕ = ones_from 0 m in
    let long : length ps ≡ count m = how-many 0 m in ⊎_elim
    (λ (h : n < count m).
    let few : count m - 1 - n < count m = omega arith in
    let e : 0 + nth_place m (count m - 1 - n) ≡ nth_place m (count m - 1 - n) = omega arith in
    rw (lt-ltb n (count m) h)
    (sym (from_last ps n (omega arith) ∙ ap (λ (x : ℕ). slice_get ps (x - 1 - n)) long ∙ the_nth 0 m (count m - 1 - n) few ∙ ap Some e)))
    (λ (h : count m ≤ n). backward-none l n end h ∙ sym (slice_get_past (reverse ps) n (omega (arith, length-reverse ps))))
    (cases_lt n (count m))
