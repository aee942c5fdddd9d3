-- Where the next set flag is, going round once: the positions of set flags from a place to the end and then those before the place; the
-- first of them is returned. Also: what follows for the masks if `next_and_not` is accepted.
use Rattle.std.specs.Prelude.{Option, Some, None, slice_get}
use Rattle.std.proofs.lemmas.Bool.{cases_lt}
use Rattle.std.proofs.lemmas.Option.{none-some, same_Some}
use Rattle.std.proofs.Math.Bool.{and-true}
use mathlib.Core.Path.{◌≡◌, refl, sym, ap, ap₂, ◌∙◌}
use mathlib.Core.Bool.{Bool, true, false, cond}
use mathlib.Core.List.{List, [], ◌∷◌}
use mathlib.Core.Logic.{⊎_elim}
use Prim.Native.Nat.{ℕ, zero, suc, ◌+◌, ◌-◌, ◌≤◌, ◌<◌}
use native.Mathlib.Omega.{arith}
use lib.ListN.{length, take, drop, get_or, length-take, length-drop, take-append-drop}
use lib.Seq.{get_or-drop}
use borrow.Author.Tests.{lt-ltb}
use Rattle.words.specs.Flags.{count}
use Rattle.words.specs.Nth.{nth_place}
use Rattle.words.proofs.counts.Counting.{count-append}
use Rattle.words.proofs.nth.NthLaws.{nth-low, nth-lt}
use Rattle.masks.specs.Search.{nth_from}
use Rattle.masks.specs.AtIndex.{and_not_flag, flag_or}
use Rattle.masks.specs.Mask.{mask_flags}
use Rattle.masks.specs.NextAndNot.{free_flags}
use Rattle.masks.specs.Workers.{Beside}
use Rattle.masks.specs.TrueIdx.{ones_from, ones_left}
use Rattle.masks.specs.declared.bitmap.Bitmap.{Bitmap}
use Rattle.masks.proofs.theorems.PairPlain.{at-and-not}
use Rattle.masks.proofs.theorems.SearchCursor.{forward-nth}
use Rattle.masks.proofs.theorems.SearchPlain.{forward-none, forward-some}

-- a position that is returned lies at or after the place, in the list
pub some-ahead : (l : List Bool) (from p : ℕ) → nth_from l 0 from ≡ Some p → (from ≤ p) × (p < length l)
some-ahead l from p e = ⊎_elim
    (λ (h : 0 < count (drop from l)).
    let f = forward-some l 0 from h in
    let same : f.0 ≡ p = same_Some f.0 p (sym f.1.0 ∙ e) in
    (omega (arith, f.1.1.after), omega (arith, f.1.1.inside)))
    (λ (h : count (drop from l) ≤ 0). absurd (none-some p (sym (forward-none l 0 from h) ∙ e)))
    (cases_lt 0 (count (drop from l)))

-- if none is returned, no flag at or after the place is set,
pub none-counted : (l : List Bool) (from : ℕ) → nth_from l 0 from ≡ None → count (drop from l) ≡ 0
none-counted l from e = ⊎_elim
    (λ (h : 0 < count (drop from l)). absurd (none-some (forward-some l 0 from h).0 (sym e ∙ (forward-some l 0 from h).1.0)))
    (λ (h : count (drop from l) ≤ 0). omega arith)
    (cases_lt 0 (count (drop from l)))

-- and then the first set flag of the list lies before the place
pub some-before : (l : List Bool) (from p : ℕ) → nth_from l 0 from ≡ None → nth_from l 0 0 ≡ Some p → p < from
unfolding nth_from
some-before l from p e f =
    let zero-on = none-counted l from e in
    let parts : count l ≡ count (take from l) + count (drop from l) =
    ap count (sym (take-append-drop from l)) ∙ count-append (take from l) (drop from l) in ⊎_elim
    (λ (h : 0 < count l).
    let front : 0 < count (take from l) = omega arith in
    let there : nth_place l 0 ≡ nth_place (take from l) 0 =
    ap (λ (t : List Bool). nth_place t 0) (sym (take-append-drop from l)) ∙ nth-low (take from l) (drop from l) 0 front in
    let at : Some (0 + nth_place l 0) ≡ Some p = sym (rw (lt-ltb 0 (count l) h)) ∙ f in
    omega (arith, same_Some (0 + nth_place l 0) p at, there, nth-lt (take from l) 0 front, length-take from l))
    (λ (h : count l ≤ 0). absurd (none-some p (sym (forward-none l 0 0 h) ∙ f)))
    (cases_lt 0 (count l))

-- ---- positions of set flags, starting at a place

-- the positions among m, starting at a, for which f is true, in order
unfoldable pub ones : (ℕ → Bool) → ℕ → ℕ → List ℕ
ones f a zero = []
ones f a (suc m) = cond (f a) (a ∷ ones f (suc a) m) (ones f (suc a) m)

pub ones-same : (f g : ℕ → Bool) (a m : ℕ) → ((j : ℕ) → a ≤ j → j < a + m → f j ≡ g j) → ones f a m ≡ ones g a m
unfolding ones
ones-same f g a zero h = refl
ones-same f g a (suc m) h =
    ap₂ (λ (x : Bool) (t : List ℕ). cond x (a ∷ t) t) (h a (omega arith) (omega arith))
    (ones-same f g (suc a) m (λ j p q. h j (omega arith) (omega arith)))

-- these positions for a list whose first flag has position k
module _ (k : ℕ) (x : Bool) (m : List Bool) where
  flags : ℕ → Bool
  flags t = get_or (x ∷ m) (t - k) false

  first-flag : flags k ≡ x
  unfolding flags
  first-flag = let z : k - k ≡ 0 = omega arith in ap (λ (i : ℕ). get_or (x ∷ m) i false) z

  later-flags : ones (λ (t : ℕ). get_or m (t - suc k) false) (suc k) (length m) ≡ ones flags (suc k) (length m)
  unfolding flags
  later-flags = ones-same (λ (t : ℕ). get_or m (t - suc k) false) (λ (t : ℕ). get_or (x ∷ m) (t - k) false) (suc k) (length m)
      (λ j p q. let e : suc (j - suc k) ≡ j - k = omega arith in ap (λ (i : ℕ). get_or (x ∷ m) i false) e)

listed : (k : ℕ) (m : List Bool) → ones_from k m ≡ ones (λ (t : ℕ). get_or m (t - k) false) k (length m)
unfolding ones_from ones flags
listed k [] = refl
listed k (true ∷ m) =
    ap (λ (t : List ℕ). k ∷ t) (listed (suc k) m ∙ later-flags k true m)
    ∙ ap (λ (b : Bool). cond b (k ∷ ones (flags k true m) (suc k) (length m)) (ones (flags k true m) (suc k) (length m)))
    (sym (first-flag k true m))
listed k (false ∷ m) =
    listed (suc k) m ∙ later-flags k false m
    ∙ ap (λ (b : Bool). cond b (k ∷ ones (flags k false m) (suc k) (length m)) (ones (flags k false m) (suc k) (length m)))
    (sym (first-flag k false m))

abbrev pub head_of : List ℕ → Option ℕ
head_of [] = None
head_of (t ∷ ts) = Some t

element_0 : (ts : List ℕ) → slice_get ts 0 ≡ head_of ts
element_0 [] = refl
element_0 (t ∷ ts) = refl

-- the first set flag at or after a place is the first of these positions
pub first-listed : (l : List Bool) (from : ℕ) → nth_from l 0 from ≡ head_of (ones (λ (t : ℕ). get_or l t false) from (length l - from))
unfolding ones_left
first-listed l from =
    forward-nth l 0 from ∙ element_0 (ones_from from (drop from l))
    ∙ ap head_of (listed from (drop from l)
    ∙ ones-same (λ (t : ℕ). get_or (drop from l) (t - from) false) (λ (t : ℕ). get_or l t false) from (length (drop from l))
    (λ j p q. let e : from + (j - from) ≡ j = omega arith in get_or-drop from l (j - from) false ∙ ap (λ (i : ℕ). get_or l i false) e)
    ∙ ap (ones (λ (t : ℕ). get_or l t false) from) (length-drop from l))

-- ---- the flags that a search reads, if the masks pass their checks

-- each is the flag of `and_not` at its index
pub free-flag : (a : Bitmap) (a_bytes : List ℕ) (S : Option Bitmap) (b_bytes : List ℕ) (i : ℕ) → Beside a.length S → i < a.length
    → get_or (free_flags a a_bytes S b_bytes) i false ≡ and_not_flag (Some a) a_bytes S b_bytes i
unfolding free_flags and_not_flag flag_or
free-flag a a_bytes (Some b) b_bytes i h inside = at-and-not a a_bytes b b_bytes h.1 i inside
free-flag a a_bytes None b_bytes i h inside = sym (and-true (get_or (mask_flags a a_bytes) i false))
