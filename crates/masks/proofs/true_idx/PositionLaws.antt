-- Positions of ones written over an output, and the cursor after them. For `next_chunk`.
use Rattle.std.proofs.lemmas.Bool.{cases_lt}
use mathlib.Core.Path.{◌≡◌, refl, sym, ap, ◌∙◌}
use mathlib.Core.Bool.{Bool, true, false}
use mathlib.Core.List.{List, [], ◌∷◌, ◌++◌}
use mathlib.Core.Logic.{⊎_elim}
use Prim.Native.Nat.{ℕ, zero, suc, ◌+◌, ◌-◌, ◌≤◌, ◌<◌, min}
use native.Mathlib.Omega.{arith}
use lib.ListN.{length, take, drop, get_or, set, length-append, length-take, length-drop, take-append-drop}
use borrow.Author.Tests.{lt-ltb, le-ltb}
use lib.Seq.{length-take-le}
use Rattle.words.specs.Flags.{copies, over}
use Rattle.words.specs.Loops.{stretch}
use Rattle.words.proofs.flags.Windows.{length_over, over-append, over_enough, over_none, set-over}
use Rattle.masks.specs.Frozen.{over_from}
use Rattle.masks.specs.Positions.{place_after, left_of}
use Rattle.masks.specs.TrueIdx.{ones_from, ones_left}
use Rattle.masks.specs.declared.true_idx.TrueIdxIter.{TrueIdxIter}
use Rattle.masks.proofs.bitmap_ops.FrozenLaws.{length-over_from, over_from-more, over_from-none}
use Rattle.masks.proofs.true_idx.TrueIdxLaws.{with-mask}
use Rattle.masks.proofs.theorems.TrueIdxPlain.{unmasked}

-- ---- consecutive positions

pub length-row : (k n : ℕ) → length (ones_from k (copies n true)) ≡ n
unfolding ones_from copies
length-row k zero = refl
length-row k (suc n) = ap suc (length-row (suc k) n)

row-end : (k n : ℕ) → ones_from k (copies (n + 1) true) ≡ ones_from k (copies n true) ++ ((k + n) ∷ [])
unfolding ones_from copies
row-end k zero = let e : k ≡ k + 0 = omega arith in ap (λ (x : ℕ). x ∷ []) e
row-end k (suc n) =
    let e : suc k + n ≡ k + suc n = omega arith in
    let f : suc n + 1 ≡ suc (n + 1) = omega arith in
    ap (λ (x : ℕ). ones_from k (copies x true)) f
    ∙ ap (λ (t : List ℕ). k ∷ t) (row-end (suc k) n ∙ ap (λ (x : ℕ). ones_from (suc k) (copies n true) ++ (x ∷ [])) e)

row-add : (k n m : ℕ) → ones_from k (copies (n + m) true) ≡ ones_from k (copies n true) ++ ones_from (k + n) (copies m true)
unfolding ones_from copies
row-add k zero m =
    let e : 0 + m ≡ m = omega arith in
    let f : k ≡ k + 0 = omega arith in
    ap (λ (x : ℕ). ones_from k (copies x true)) e ∙ ap (λ (x : ℕ). ones_from x (copies m true)) f
row-add k (suc n) m =
    let e : suc n + m ≡ suc (n + m) = omega arith in
    let f : suc k + n ≡ k + suc n = omega arith in
    ap (λ (x : ℕ). ones_from k (copies x true)) e
    ∙ ap (λ (t : List ℕ). k ∷ t) (row-add (suc k) n m ∙ ap (λ (x : ℕ). ones_from (suc k) (copies n true) ++ ones_from x (copies m true)) f)

-- one more step of a loop that writes consecutive positions over a part
pub row_step : (l : List ℕ) (first i x : ℕ) (part : List ℕ) → part ≡ over l (ones_from first (copies i true)) → x ≡ first + i
    → set part i x ≡ over l (ones_from first (copies (i + 1) true))
row_step l first i x part p q =
    let row : List ℕ = ones_from first (copies i true) in
    ap (λ (t : List ℕ). set t i x) p ∙ ap (λ (j : ℕ). set (over l row) j x) (sym (length-row first i)) ∙ set-over l row x
    ∙ ap (λ (y : ℕ). over l (row ++ (y ∷ []))) q ∙ ap (over l) (sym (row-end first i))

pub row-none : (l : List ℕ) (first : ℕ) → l ≡ over l (ones_from first (copies 0 true))
unfolding ones_from copies
row-none l first = sym (over_none l)

over-same : (l m : List ℕ) → length l ≡ length m → over l m ≡ m
unfolding over
over-same [] [] e = refl
over-same [] (y ∷ m) e = absurd (omega arith)
over-same (x ∷ l) [] e = absurd (omega arith)
over-same (x ∷ l) (y ∷ m) e = ap (λ (t : List ℕ). y ∷ t) (over-same l m (omega arith))

pub row-all : (l : List ℕ) (first i : ℕ) (part : List ℕ) → part ≡ over l (ones_from first (copies i true)) → i ≤ length l → length l ≤ i
    → part ≡ ones_from first (copies (length l) true)
row-all l first i part p a b =
    let n : i ≡ length l = omega arith in
    p ∙ ap (λ (x : ℕ). over l (ones_from first (copies x true))) n
    ∙ over-same l (ones_from first (copies (length l) true)) (sym (length-row first (length l)))

-- writing positions over a part in the middle of an output
pub row-mid : (out part : List ℕ) (at first n : ℕ) → at + n ≤ length out
    → part ≡ ones_from first (copies (length (take (at + n - at) (drop at out))) true)
    → take at out ++ (part ++ drop (at + n - at) (drop at out)) ≡ over_from out at (ones_from first (copies n true))
unfolding over_from
row-mid out part at first n h p =
    let d : List ℕ = drop at out in
    let f : at + n - at ≡ n = omega arith in
    let long : length (take n d) ≡ n = length-take-le n d (omega (arith, length-drop at out)) in
    let row : List ℕ = ones_from first (copies n true) in
    let same : part ≡ row =
    p ∙ ap (λ (x : ℕ). ones_from first (copies (length (take x d)) true)) f ∙ ap (λ (x : ℕ). ones_from first (copies x true)) long in
    let written : over (take n d ++ drop n d) (row ++ []) ≡ row ++ over (drop n d) [] =
    over-append (take n d) row (drop n d) [] (long ∙ sym (length-row first n)) in
    ap (λ (t : List ℕ). take at out ++ t)
    (ap (λ (x : ℕ). part ++ drop x d) f ∙ ap (λ (t : List ℕ). t ++ drop n d) same
    ∙ ap (λ (t : List ℕ). row ++ t) (sym (over_none (drop n d))) ∙ sym written
    ∙ ap (λ (t : List ℕ). over t (row ++ [])) (take-append-drop n d) ∙ ap (over d) (append-none row))
  where
    append-none : (m : List ℕ) → m ++ [] ≡ m
    append-none [] = refl
    append-none (x ∷ m) = ap (λ (t : List ℕ). x ∷ t) (append-none m)

-- ---- more positions after those written

none_before : (n : ℕ) (m : List ℕ) → over_from [] n m ≡ []
unfolding over_from over
none_before zero m = refl
none_before (suc n) m = refl

one-before : (x : ℕ) (l : List ℕ) (n : ℕ) (m : List ℕ) → over_from (x ∷ l) (suc n) m ≡ x ∷ over_from l n m
unfolding over_from
one-before x l n m = refl

pub from_front : (l m : List ℕ) → over_from l 0 m ≡ over l m
unfolding over_from
from_front l m = refl

pub over_from_enough : (l : List ℕ) (n : ℕ) (a b : List ℕ) → length l ≤ n + length a → over_from l n (a ++ b) ≡ over_from l n a
unfolding over_from
over_from_enough l n a b h = ap (λ (t : List ℕ). take n l ++ t) (over_enough (drop n l) a b (omega (arith, length-drop n l)))

pub over_from-past : (l : List ℕ) (n : ℕ) (m : List ℕ) → length l ≤ n → over_from l n m ≡ l
over_from-past [] n m h = none_before n m
over_from-past (x ∷ l) zero m h = absurd (omega arith)
over_from-past (x ∷ l) (suc n) m h = one-before x l n m ∙ ap (λ (t : List ℕ). x ∷ t) (over_from-past l n m (omega arith))

-- a run that is cut at the end of the output
pub run-cut : (l : List ℕ) (n q ones k : ℕ) → n ≤ length l → k ≡ min ones (length l - n)
    → over_from l n (ones_from q (copies k true)) ≡ over_from l n (ones_from q (copies ones true))
run-cut l n q ones k h e = ⊎_elim
    (λ (few : k < ones).
    let rest : List ℕ = ones_from (q + k) (copies (ones - k) true) in
    let both : k + (ones - k) ≡ ones = omega arith in
    sym (ap (λ (x : ℕ). over_from l n (ones_from q (copies x true))) (sym both) ∙ ap (over_from l n) (row-add q k (ones - k))
    ∙ over_from_enough l n (ones_from q (copies k true)) rest (omega (arith, length-row q k))))
    (λ (all : ones ≤ k). let same : k ≡ ones = omega arith in ap (λ (x : ℕ). over_from l n (ones_from q (copies x true))) same)
    (cases_lt k ones)

-- ---- an output under way: writing what is left, at the count, ends in the same output as writing all, at the first count

pub record UnderWay (out₀ : List ℕ) (done : ℕ) (all out : List ℕ) (count : ℕ) (left : List ℕ) : Type 0 where
  pub same_length : length out ≡ length out₀
  pub within : count ≤ length out
  pub same_out : over_from out count left ≡ over_from out₀ done all
  pub same_count : min (length out) (count + length left) ≡ min (length out₀) (done + length all)

pub begins : (out : List ℕ) (done : ℕ) (all : List ℕ) → done ≤ length out → UnderWay out done all out done all
begins out done all h = record { same_length = refl; within = h; same_out = refl; same_count = refl }

module _ (out₀ : List ℕ) (done : ℕ) (all out : List ℕ) (count : ℕ) where
  pub goes_on : (left a b out' : List ℕ) (r : ℕ) → UnderWay out₀ done all out count left → left ≡ a ++ b
      → out' ≡ over_from out count a → r ≡ min (length out) (count + length a) → UnderWay out₀ done all out' r b
  goes_on left a b out' r u e p q =
      let n : length out' ≡ length out = ap length p ∙ length-over_from out count a in
      let long : length left ≡ length a + length b = ap length e ∙ length-append a b in
      record {
        same_length = n ∙ u.same_length;
        within = omega arith;
        same_out =
            ⊎_elim
            (λ (fits : count + length a < length out).
            let last : r ≡ count + length a = omega arith in
            ap (λ (t : List ℕ). over_from t r b) p ∙ ap (λ (x : ℕ). over_from (over_from out count a) x b) last
            ∙ over_from-more out count a b
            ∙ ap (over_from out count) (sym e) ∙ u.same_out)
            (λ (full : length out ≤ count + length a).
            over_from-past out' r b (omega arith) ∙ p ∙ sym (over_from_enough out count a b full) ∙ ap (over_from out count) (sym e)
            ∙ u.same_out)
            (cases_lt (count + length a) (length out));
        same_count = omega (arith, u.same_count, u.same_length);
      }

  -- if nothing is left, or the output is full, all is written
  pub finished : (left : List ℕ) → UnderWay out₀ done all out count left → left ≡ []
      → (count ≡ min (length out₀) (done + length all)) × (out ≡ over_from out₀ done all)
  finished left u e =
      let n : length left ≡ 0 = ap length e in
      (omega (arith, u.same_count, u.within), sym (over_from-none out count) ∙ ap (over_from out count) (sym e) ∙ u.same_out)

  pub full : (left : List ℕ) → UnderWay out₀ done all out count left → length out ≤ count
      → (count ≡ min (length out₀) (done + length all)) × (out ≡ over_from out₀ done all)
  full left u h = (omega (arith, u.same_count, u.within), sym (over_from-past out count left h) ∙ u.same_out)

-- ---- the cursor after the positions written

at-over : (l m : List ℕ) (k : ℕ) → k < length l → k < length m → get_or (over l m) k 0 ≡ get_or m k 0
unfolding over
at-over [] m k h g = absurd (omega arith)
at-over (x ∷ l) [] k h g = absurd (omega arith)
at-over (x ∷ l) (y ∷ m) zero h g = refl
at-over (x ∷ l) (y ∷ m) (suc k) h g = at-over l m k (omega arith) (omega arith)

-- the place after k + 1 positions: one past the last of them, or the length if fewer are left
pub after-many : (c : TrueIdxIter) (left : List ℕ) (k : ℕ) → k < length left → place_after c left (suc k) ≡ get_or left k 0 + 1
unfolding place_after
after-many c left k h = rw (lt-ltb k (length left) h)

pub after-few : (c : TrueIdxIter) (left : List ℕ) (k : ℕ) → length left ≤ k → place_after c left (suc k) ≡ c.length
unfolding place_after
after-few c left k h = rw (le-ltb k (length left) h)

pub after-none : (c : TrueIdxIter) (left : List ℕ) → place_after c left 0 ≡ c.place
unfolding place_after
after-none c left = refl

module _ (c : TrueIdxIter) (out : List ℕ) (count : ℕ) (old left : List ℕ) (p : out ≡ over old left)
    (q : count ≡ min (length old) (length left)) where
  same-room : length out ≡ length old
  same-room = ap length p ∙ length_over old left

  pub place-few : count < length out → c.length ≡ place_after c left (length old)
  place-few h = go (length old) (omega (arith, same-room))
    where
      go : (k : ℕ) → length left < k → c.length ≡ place_after c left k
      go zero g = absurd (omega arith)
      go (suc k) g = sym (after-few c left k (omega arith))

  pub place_none : length out ≤ count → count ≡ 0 → c.place ≡ place_after c left (length old)
  place_none h e =
      let k : length old ≡ 0 = omega (arith, same-room) in
      sym (ap (place_after c left) k ∙ after-none c left)

  pub place-last : (r : ℕ) → length out ≤ count → (count ≡ 0 → ⊥) → r ≡ get_or out (count - 1) 0 → r + 1 ≡ place_after c left (length old)
  place-last r h n e =
      let k : length old ≡ suc (count - 1) = omega (arith, same-room, n) in
      ap (λ (x : ℕ). x + 1) (e ∙ ap (λ (l : List ℕ). get_or l (count - 1) 0) p
      ∙ at-over old left (count - 1) (omega (arith, n)) (omega (arith, n)))
      ∙ sym (after-many c left (count - 1) (omega (arith, n))) ∙ ap (place_after c left) (sym k)

-- ---- with a mask and without

drop-copies : (p n : ℕ) (x : Bool) → drop p (copies n x) ≡ copies (n - p) x
unfolding copies
drop-copies zero n x = let e : n ≡ n - 0 = omega arith in ap (λ (k : ℕ). copies k x) e
drop-copies (suc p) zero x = let e : 0 ≡ 0 - suc p = omega arith in ap (λ (k : ℕ). copies k x) e
drop-copies (suc p) (suc n) x = let e : n - p ≡ suc n - suc p = omega arith in drop-copies p n x ∙ ap (λ (k : ℕ). copies k x) e

module _ (c : TrueIdxIter) (bytes : List ℕ) where
  pub masked-written : (out out' : List ℕ) (r : ℕ) → c.masked ≡ true
      → r ≡ min (length out) (length (ones_left (stretch bytes c.start c.length) c.place))
      → out' ≡ over_from out 0 (ones_left (stretch bytes c.start c.length) c.place)
      → (r ≡ min (length out) (length (left_of c bytes))) × (out' ≡ over out (left_of c bytes))
  masked-written out out' r m p q =
      let same : ones_left (stretch bytes c.start c.length) c.place ≡ left_of c bytes =
      ap (λ (l : List Bool). ones_left l c.place) (sym (with-mask c bytes m)) in
      (p ∙ ap (λ (t : List ℕ). min (length out) (length t)) same, q ∙ from_front out _ ∙ ap (over out) same)

  row-left : c.masked ≡ false → left_of c bytes ≡ ones_from c.place (copies (c.length - c.place) true)
  unfolding ones_left
  row-left m =
      ap (λ (l : List Bool). ones_from c.place (drop c.place l)) (unmasked c bytes m)
      ∙ ap (ones_from c.place) (drop-copies c.place c.length true)

  pub row_written : (out out' : List ℕ) (n : ℕ) → c.masked ≡ false → n ≡ min (c.length - c.place) (length out)
      → out' ≡ over_from out 0 (ones_from c.place (copies n true))
      → (n ≡ min (length out) (length (left_of c bytes))) × (out' ≡ over out (left_of c bytes))
  row_written out out' n m p q =
      let row : List ℕ = ones_from c.place (copies (c.length - c.place) true) in
      let long : length (left_of c bytes) ≡ c.length - c.place = ap length (row-left m) ∙ length-row c.place (c.length - c.place) in (
        omega arith,
        q ∙ run-cut out 0 c.place (c.length - c.place) n (omega arith) (omega arith) ∙ from_front out row
            ∙ ap (over out) (sym (row-left m)),
      )

  -- the number and the cursor that the call returns
  pub told : (k r : ℕ) → r ≡ min k (length (left_of c bytes)) → r ≡ length (take k (left_of c bytes))
  told k r e = e ∙ sym (length-take k (left_of c bytes))

pub within-out : (out out' left : List ℕ) (r : ℕ) → r ≡ min (length out) (length left) → out' ≡ over out left → r ≤ length out'
within-out out out' left r e p = let n : length out' ≡ length out = ap length p ∙ length_over out left in omega arith
