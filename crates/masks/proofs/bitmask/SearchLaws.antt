-- Searches for the n-th set flag by windows of d flags: found in a window, passed over, or at the end of the list.
use Rattle.std.specs.Prelude.{Some, None, Ok, Err}
use Rattle.std.proofs.lemmas.Bool.{cases_lt}
use mathlib.Core.Path.{◌≡◌, sym, ap, ap₂, ◌∙◌, subst}
use mathlib.Core.Bool.{Bool, cond}
use mathlib.Core.List.{List, [], ◌++◌}
use mathlib.Core.Logic.{⊎_elim}
use Prim.Native.Nat.{ℕ, ◌+◌, ◌-◌, ◌≤◌, ◌<◌, min}
use native.Mathlib.Nat.{add-zero}
use native.Mathlib.Omega.{arith}
use lib.Dec.{ltb}
use lib.ListN.{length, take, drop, length-take, length-drop, take-append-drop, drop_of_length-le}
use lib.Seq.{take_all, take-take, length-take-le}
use borrow.Author.Tests.{lt-ltb, le-ltb}
use Rattle.words.specs.Flags.{bits, count, flags_of, window}
use Rattle.words.specs.Loops.{stretch}
use Rattle.words.specs.Nth.{nth_one, nth_place}
use Rattle.words.proofs.flags.Bits.{length-bits}
use Rattle.words.proofs.counts.Counting.{count-append, count-le, count-padded}
use Rattle.words.proofs.nth.NthLaws.{nth-low, nth-high, nth-lt}
use Rattle.words.proofs.theorems.Plain.{count-empty, nth-found, nth-missing, missing-nth}
use Rattle.words.proofs.flags.Windows.{length-window, window-add, window-all, window-cut, window-drop}
use Rattle.masks.specs.Bitmask.{window_word}
use Rattle.masks.specs.Search.{nth_from, nth_back}
use Rattle.masks.proofs.bitmask.BitmaskLaws.{window-flags}

-- zeros after a list move no set flag
place-padded : (l : List Bool) (d n : ℕ) → length l ≤ d → n < count l → nth_place (window l 0 d) n ≡ nth_place l n
place-padded l d n h k =
    let e : d ≡ length l + (d - length l) = omega arith in
    ap (λ (x : ℕ). nth_place (window l 0 x) n) e
    ∙ ap (λ (t : List Bool). nth_place t n)
    (window-add l 0 (length l) (d - length l) ∙ ap (λ (t : List Bool). t ++ window l (0 + length l) (d - length l)) (window-all l))
    ∙ nth-low l (window l (0 + length l) (d - length l)) n k

-- ---- up from a place

rest-window : (l : List Bool) (at m : ℕ) → window (drop at l) 0 m ≡ window l at m
rest-window l at m = window-drop l at 0 m ∙ ap (λ (x : ℕ). window l x m) (add-zero at)

-- the flags from `at` to the end are those of the window and those after it
module _ (l : List Bool) (at d : ℕ) where
  whole : window (drop at l) 0 (d + length l) ≡ window l at d ++ window (drop (at + d) l) 0 (length l)
  whole =
      rest-window l at (d + length l) ∙ window-add l at d (length l)
      ∙ ap (λ (t : List Bool). window l at d ++ t) (sym (rest-window l (at + d) (length l)))

  count-on : count (drop at l) ≡ count (window l at d) + count (drop (at + d) l)
  count-on =
      sym (count-padded (drop at l) (d + length l) (omega (arith, length-drop at l))) ∙ ap count whole
      ∙ count-append (window l at d) (window (drop (at + d) l) 0 (length l))
      ∙ ap (λ (x : ℕ). count (window l at d) + x) (count-padded (drop (at + d) l) (length l) (omega (arith, length-drop (at + d) l)))

  place-whole : (n : ℕ) → n < count (drop at l)
      → nth_place (drop at l) n ≡ nth_place (window l at d ++ window (drop (at + d) l) 0 (length l)) n
  place-whole n h =
      sym (place-padded (drop at l) (d + length l) n (omega (arith, length-drop at l)) h) ∙ ap (λ (t : List Bool). nth_place t n) whole

  place_in : (n : ℕ) → n < count (window l at d) → nth_place (drop at l) n ≡ nth_place (window l at d) n
  place_in n h = place-whole n (omega (arith, count-on)) ∙ nth-low (window l at d) (window (drop (at + d) l) 0 (length l)) n h

  place_after : (n : ℕ) → count (window l at d) ≤ n → n - count (window l at d) < count (drop (at + d) l)
      → nth_place (drop at l) n ≡ d + nth_place (drop (at + d) l) (n - count (window l at d))
  place_after n h k =
      place-whole n (omega (arith, count-on)) ∙ nth-high (window l at d) (window (drop (at + d) l) 0 (length l)) n h
      ∙ ap₂ (λ (x y : ℕ). x + y) (length-window l at d)
      (place-padded (drop (at + d) l) (length l) (n - count (window l at d)) (omega (arith, length-drop (at + d) l)) k)

  pub from_found : (n : ℕ) → n < count (window l at d) → Some (at + nth_place (window l at d) n) ≡ nth_from l n at
  unfolding nth_from
  from_found n h = rw (lt-ltb n (count (drop at l)) (omega (arith, count-on))) (ap (λ (x : ℕ). Some (at + x)) (sym (place_in n h)))

  pub from_on : (n : ℕ) → count (window l at d) ≤ n → nth_from l n at ≡ nth_from l (n - count (window l at d)) (at + d)
  unfolding nth_from
  from_on n h = ⊎_elim
      (λ (k : n - count (window l at d) < count (drop (at + d) l)).
      let e : at + (d + nth_place (drop (at + d) l) (n - count (window l at d)))
      ≡ at + d + nth_place (drop (at + d) l) (n - count (window l at d)) =
      omega arith in
      rw (lt-ltb n (count (drop at l)) (omega (arith, count-on)), lt-ltb (n - count (window l at d)) (count (drop (at + d) l)) k)
      (ap Some (ap (λ (x : ℕ). at + x) (place_after n h k) ∙ e)))
      (λ (k : count (drop (at + d) l) ≤ n - count (window l at d)).
      rw (le-ltb n (count (drop at l)) (omega (arith, count-on)), le-ltb (n - count (window l at d)) (count (drop (at + d) l)) k))
      (cases_lt (n - count (window l at d)) (count (drop (at + d) l)))

pub from_end : (l : List Bool) (n at : ℕ) → length l ≤ at → None ≡ nth_from l n at
unfolding nth_from
from_end l n at h = rw (le-ltb n (count (drop at l)) (omega (arith, ap count (drop_of_length-le l h), count-empty)))

-- ---- down from an end

-- the flags before e are those before s and those of the window that starts at s, whose flags at e and above are zeros
module _ (l : List Bool) (s e d : ℕ) (low : s ≤ e) (inside : e ≤ length l) (near : e ≤ s + d) where
  parts : take e l ≡ take s l ++ drop s (take e l)
  parts = sym (take-append-drop s (take e l)) ∙ ap (λ (t : List Bool). t ++ drop s (take e l)) (take-take s e l low)

  the_window : window (take e l) s d ≡ window (drop s (take e l)) 0 d
  the_window = sym (rest-window (take e l) s d)

  short : length (drop s (take e l)) ≤ d
  short = omega (arith, length-drop s (take e l), length-take e l)

  ones-there : count (window (take e l) s d) ≡ count (drop s (take e l))
  ones-there = ap count the_window ∙ count-padded (drop s (take e l)) d short

  ones-before : count (take e l) ≡ count (take s l) + count (window (take e l) s d)
  ones-before = ap count parts ∙ count-append (take s l) (drop s (take e l)) ∙ ap (λ (x : ℕ). count (take s l) + x) (sym ones-there)

  pub back_found : (n : ℕ) → n < count (window (take e l) s d)
      → Some (s + nth_place (window (take e l) s d) (count (window (take e l) s d) - 1 - n)) ≡ nth_back l n e
  unfolding nth_back
  back_found n h =
      let c : count (take e l) ≡ count (take s l) + count (window (take e l) s d) = ones-before in
      let k : count (take s l) ≤ count (take e l) - 1 - n = omega arith in
      let i : count (take e l) - 1 - n - count (take s l) ≡ count (window (take e l) s d) - 1 - n = omega arith in
      rw (lt-ltb n (count (take e l)) (omega arith))
      (sym (ap Some (ap (λ (t : List Bool). nth_place t (count (take e l) - 1 - n)) parts
      ∙ nth-high (take s l) (drop s (take e l)) (count (take e l) - 1 - n) k
      ∙ ap₂ (λ (x y : ℕ). x + nth_place (drop s (take e l)) y) (length-take-le s l (omega arith)) i
      ∙ ap (λ (x : ℕ). s + x) (sym (ap (λ (t : List Bool). nth_place t (count (window (take e l) s d) - 1 - n)) the_window
      ∙ place-padded (drop s (take e l)) d (count (window (take e l) s d) - 1 - n) short (omega (arith, ones-there)))))))

  pub back_on : (n : ℕ) → count (window (take e l) s d) ≤ n → nth_back l n e ≡ nth_back l (n - count (window (take e l) s d)) s
  unfolding nth_back
  back_on n h =
      let c : count (take e l) ≡ count (take s l) + count (window (take e l) s d) = ones-before in
      ⊎_elim
      (λ (k : n < count (take e l)).
      let i : count (take e l) - 1 - n ≡ count (take s l) - 1 - (n - count (window (take e l) s d)) = omega arith in
      rw (lt-ltb n (count (take e l)) k, lt-ltb (n - count (window (take e l) s d)) (count (take s l)) (omega arith))
      (ap Some (ap (λ (t : List Bool). nth_place t (count (take e l) - 1 - n)) parts
      ∙ nth-low (take s l) (drop s (take e l)) (count (take e l) - 1 - n) (omega arith) ∙ ap (nth_place (take s l)) i)))
      (λ (k : count (take e l) ≤ n).
      rw (le-ltb n (count (take e l)) k, le-ltb (n - count (window (take e l) s d)) (count (take s l)) (omega arith)))
      (cases_lt n (count (take e l)))

pub back_end : (l : List Bool) (n : ℕ) → None ≡ nth_back l n 0
unfolding nth_back
back_end l n = rw (le-ltb n (count []) (omega (arith, count-empty)))

-- an end past the list equals the list's end
back-most : (l : List Bool) (n end m : ℕ) → m ≡ min end (length l) → nth_back l n m ≡ nth_back l n end
unfolding nth_back
back-most l n end m e = ⊎_elim
    (λ (h : end < length l). let z : m ≡ end = omega arith in ap (nth_back l n) z)
    (λ (h : length l ≤ end).
    let z : take m l ≡ take end l = take_all m l (omega arith) ∙ sym (take_all end l h) in
    ap (λ (t : List Bool). cond (ltb n (count t)) (Some (nth_place t (count t - 1 - n))) None) z)
    (cases_lt end (length l))

-- ---- the outcome of a search in one window

pub record IsThere (l : List Bool) (n i : ℕ) : Type 0 where
  pub many : n < count l
  pub place : i ≡ nth_place l n
  pub inside : i < length l

pub record IsOnly (l : List Bool) (n k : ℕ) : Type 0 where
  pub few : count l ≤ n
  pub number : k ≡ count l

pub seen-there : (l : List Bool) (n i : ℕ) → nth_one l n ≡ Ok i → IsThere l n i
seen-there l n i e = ⊎_elim
    (λ (h : n < count l).
    let a : nth_one l n ≡ Ok (nth_place l n) = nth-found l n h in
    let p : i ≡ nth_place l n = cc in
    record { many = h; place = p; inside = omega (arith, nth-lt l n h) })
    (λ (h : count l ≤ n).
    let a : nth_one l n ≡ Err (count l) = nth-missing l n h in
    let z : ◌≡◌ {A = ℕ} 0 1 = cc in absurd (omega arith))
    (cases_lt n (count l))

pub seen-only : (l : List Bool) (n k : ℕ) → nth_one l n ≡ Err k → IsOnly l n k
seen-only l n k e = let told : (k ≡ count l) × (count l ≤ n) = missing-nth l n k e in record { few = told.1; number = told.0 }

-- no word of d flags has more than d set flags, so a number above d is searched for as d
pub ask_least : (d w n m : ℕ) → m ≡ min n d → nth_one (bits d w) m ≡ nth_one (bits d w) n
ask_least d w n m p = ⊎_elim
    (λ (h : n < d). let z : m ≡ n = omega arith in ap (nth_one (bits d w)) z)
    (λ (h : d ≤ n).
    nth-missing (bits d w) m (omega (arith, count-le (bits d w), length-bits d w))
    ∙ sym (nth-missing (bits d w) n (omega (arith, count-le (bits d w), length-bits d w))))
    (cases_lt n d)

-- ---- the iterations of the two loops, over the flags of a span

-- the window holds the n-th set flag
pub turn-there : (l m : List Bool) (n at i : ℕ) → m ≡ window l at 32 → IsThere m n i → Some (at + i) ≡ nth_from l n at
turn-there l m n at i e h =
    ap (λ (x : ℕ). Some (at + x)) (h.place ∙ ap (λ (t : List Bool). nth_place t n) e)
    ∙ from_found l at 32 n (subst (λ (t : List Bool). n < count t) e h.many)

pub turn-only : (l m : List Bool) (n at k : ℕ) → m ≡ window l at 32 → IsOnly m n k → nth_from l (n - k) (at + 32) ≡ nth_from l n at
turn-only l m n at k e h =
    ap (λ (x : ℕ). nth_from l (n - x) (at + 32)) (h.number ∙ ap count e)
    ∙ sym (from_on l at 32 n (subst (λ (t : List Bool). count t ≤ n) e h.few))

pub turn_end : (l : List Bool) (start size n at : ℕ) → size ≤ at → None ≡ nth_from (window l start size) n at
turn_end l start size n at h = from_end (window l start size) n at (omega (arith, length-window l start size))

-- the last window is passed over: there is no such flag
pub turn_last : (l m : List Bool) (start size n at k : ℕ) → m ≡ window (window l start size) at 32 → IsOnly m n k → size ≤ at + 32
    → None ≡ nth_from (window l start size) n at
turn_last l m start size n at k e h z = turn_end l start size (n - k) (at + 32) z ∙ turn-only (window l start size) m n at k e h

-- a window cannot have both enough set flags and too few
pub enough : (bytes : List ℕ) (start size at left w ones : ℕ) → count (bits 32 (window_word bytes start size at)) ≤ left
    → w ≡ window_word bytes start size at → ones ≡ count (bits 32 w) → left < ones → ⊥
enough bytes start size at left w ones few e p h = omega (arith, p ∙ ap (λ (x : ℕ). count (bits 32 x)) e)

-- a shorter span has the first flags of a longer one
span-take : (l : List Bool) (start n e : ℕ) → e ≤ n → window l start e ≡ take e (window l start n)
span-take l start n e h = sym (window-cut l start n 0 e (omega arith) ∙ ap (λ (x : ℕ). window l x e) (add-zero start))

back-flags : (bytes : List ℕ) (start size e s w : ℕ) → e ≤ size → w ≡ window_word bytes start e s
    → bits 32 w ≡ window (take e (stretch bytes start size)) s 32
back-flags bytes start size e s w h p =
    window-flags bytes start e s w p ∙ ap (λ (t : List Bool). window t s 32) (span-take (flags_of bytes) start size e h)

-- a window that starts at s and ends at or below e, in a span of `size` flags
pub record Below (size s e : ℕ) : Type 0 where
  pub low : s ≤ e
  pub inside : e ≤ size
  pub near : e ≤ s + 32

module _ (bytes : List ℕ) (start size s e w : ℕ) (at : Below size s e) (flags : w ≡ window_word bytes start e s) where
  reach : e ≤ length (stretch bytes start size)
  reach = omega (arith, at.inside, length-window (flags_of bytes) start size)

  same : bits 32 w ≡ window (take e (stretch bytes start size)) s 32
  same = back-flags bytes start size e s w at.inside flags

  pub turn-back : (n k i : ℕ) → k ≡ count (bits 32 w) → n < k → i ≡ nth_place (bits 32 w) (k - 1 - n)
      → Some (s + i) ≡ nth_back (stretch bytes start size) n e
  turn-back n k i p h j =
      ap (λ (x : ℕ). Some (s + x)) (j ∙ ap₂ (λ (t : List Bool) (x : ℕ). nth_place t (x - 1 - n)) same (p ∙ ap count same))
      ∙ back_found (stretch bytes start size) s e 32 at.low reach at.near n (subst (λ (x : ℕ). n < x) (p ∙ ap count same) h)

  pub turn-down : (n k : ℕ) → k ≡ count (bits 32 w) → k ≤ n
      → nth_back (stretch bytes start size) (n - k) s ≡ nth_back (stretch bytes start size) n e
  turn-down n k p h =
      ap (λ (x : ℕ). nth_back (stretch bytes start size) (n - x) s) (p ∙ ap count same)
      ∙ sym (back_on (stretch bytes start size) s e 32 at.low reach at.near n (subst (λ (x : ℕ). x ≤ n) (p ∙ ap count same) h))

pub back_none : (l : List Bool) (n e : ℕ) → e ≤ 0 → None ≡ nth_back l n e
back_none l n e h = let z : 0 ≡ e = omega arith in back_end l n ∙ ap (nth_back l n) z

pub place-below : (w n i : ℕ) → n < count (bits 32 w) → i ≡ nth_place (bits 32 w) n → i < 32
place-below w n i h e = omega (arith, nth-lt (bits 32 w) n h, length-bits 32 w)

pub span-most : (l : List Bool) (start size n end m : ℕ) → m ≡ min end size
    → nth_back (window l start size) n m ≡ nth_back (window l start size) n end
span-most l start size n end m e = back-most (window l start size) n end m (e ∙ ap (min end) (sym (length-window l start size)))
