-- Whether all flags of a list equal one flag: by the flag, in lists joined, word by word, and by the flags that differ.
use Rattle.std.proofs.Common.{◌≡◌, refl, sym, ap, ap₂, ◌∙◌, Bool, true, false, not, ◌&&◌, ◌||◌, ⊎_elim, List, [], ◌∷◌, ◌++◌, map, ℕ, zero}
use Rattle.std.proofs.Common.{suc, ◌+◌, ◌-◌, ◌*◌, ◌/◌, ◌%◌, ◌≤◌, ◌<◌, min, arith, eqb, leb, ltb, take_all, length, take}
use Rattle.std.proofs.Common.{length-take, eq-eqb, ne_eqb, eqb-true, le-leb}
use Rattle.std.proofs.Math.Bool.{xor, and-false, or-false, not-not, and_assoc}
use Rattle.std.proofs.Math.ListN.{length-map}
use Rattle.std.proofs.lemmas.Bool.{eqb-false, lt-leb, not-true}
use Rattle.std.proofs.lemmas.List.{take-map, get_or-map}
use Rattle.std.proofs.Common.{true≢false}
use Rattle.std.proofs.lemmas.Bool.{cases_lt}
use Rattle.words.specs.Flags.{bits, count, digit, flags_of, window}
use Rattle.words.specs.Counts.{any_set}
use Rattle.words.specs.Uniform.{all_equal, differs_early}
use Rattle.words.proofs.counts.AnyFlag.{any-add, any-copies, any-padded}
use Rattle.words.proofs.flags.Bits.{length-bits}
use Rattle.words.proofs.counts.Counting.{count-le, span-word}
use Rattle.words.proofs.word.Loads.{near-first}
use Rattle.words.proofs.flags.Windows.{in_window, length-window, window-add, window-cut, window-past}

-- ---- by the flag

-- two comparisons that hold in the same cases
pub eqb-both : (a b c d : ℕ) → (a ≡ b → c ≡ d) → (c ≡ d → a ≡ b) → eqb a b ≡ eqb c d
eqb-both a b c d f g = go (eqb c d) refl
  where
    go : (t : Bool) → eqb c d ≡ t → eqb a b ≡ t
    go true e = eq-eqb a b (g (eqb-true c d e))
    go false e = ne_eqb a b (λ h. eqb-false c d e (f h))

pub all_none : (x : Bool) → all_equal x [] ≡ true
unfolding all_equal count
all_none true = eq-eqb 0 (0 * 1) (omega arith)
all_none false = eq-eqb 0 (0 * 0) (omega arith)

-- a list with a first flag y is all x if y is x and the others are
pub all_cons : (x y : Bool) (l : List Bool) → all_equal x (y ∷ l) ≡ (not (xor x y) && all_equal x l)
unfolding all_equal count xor
all_cons true true l = eqb-both (1 + count l) (suc (length l) * 1) (count l) (length l * 1) (λ e. omega arith) (λ e. omega arith)
all_cons true false l = ne_eqb (0 + count l) (suc (length l) * 1) (λ e. omega (arith, count-le l))
all_cons false true l = ne_eqb (1 + count l) (suc (length l) * 0) (λ e. omega arith)
all_cons false false l = eqb-both (0 + count l) (suc (length l) * 0) (count l) (length l * 0) (λ e. omega arith) (λ e. omega arith)

one-xor : (y : Bool) → not y ≡ xor true y
unfolding xor
one-xor true = refl
one-xor false = refl

zero_xor : (y : Bool) → y ≡ xor false y
unfolding xor
zero_xor true = refl
zero_xor false = refl

pub all_append : (x : Bool) (a b : List Bool) → all_equal x (a ++ b) ≡ (all_equal x a && all_equal x b)
all_append x [] b = sym (ap (λ (t : Bool). t && all_equal x b) (all_none x))
all_append x (y ∷ a) b =
    all_cons x y (a ++ b) ∙ ap (λ (t : Bool). not (xor x y) && t) (all_append x a b)
    ∙ sym (and_assoc (not (xor x y)) (all_equal x a) (all_equal x b)) ∙ ap (λ (t : Bool). t && all_equal x b) (sym (all_cons x y a))

-- all flags equal x if and only if none differs from it
pub all_any : (x : Bool) (l : List Bool) → not (any_set (map (xor x) l)) ≡ all_equal x l
unfolding any_set
all_any x [] = sym (all_none x)
all_any x (y ∷ l) = first (xor x y) ∙ ap (λ (t : Bool). not (xor x y) && t) (all_any x l) ∙ sym (all_cons x y l)
  where
    first : (t : Bool) → not (any_set (t ∷ map (xor x) l)) ≡ (not t && not (any_set (map (xor x) l)))
    first true = refl
    first false = refl

-- the flags that differ from 1, and those that differ from 0
pub unlike_one : (x : Bool) (w r : ℕ) → x ≡ true → bits 64 r ≡ map not (bits 64 w) → bits 64 r ≡ map (xor x) (bits 64 w)
unlike_one x w r e p = p ∙ each (bits 64 w) ∙ ap (λ (y : Bool). map (xor y) (bits 64 w)) (sym e)
  where
    each : (l : List Bool) → map not l ≡ map (xor true) l
    each [] = refl
    each (y ∷ l) = ap₂ (λ (z : Bool) (t : List Bool). z ∷ t) (one-xor y) (each l)

pub unlike_zero : (x : Bool) (w : ℕ) → x ≡ false → bits 64 w ≡ map (xor x) (bits 64 w)
unlike_zero x w e = each (bits 64 w) ∙ ap (λ (y : Bool). map (xor y) (bits 64 w)) (sym e)
  where
    each : (l : List Bool) → l ≡ map (xor false) l
    each [] = refl
    each (y ∷ l) = ap₂ (λ (z : Bool) (t : List Bool). z ∷ t) (zero_xor y) (each l)

-- the low flags of a word
pub all-low : (x : Bool) (k w u r : ℕ) (t : Bool) → bits 64 u ≡ map (xor x) (bits 64 w) → bits 64 r ≡ window (take k (bits 64 u)) 0 64
    → t ≡ any_set (bits 64 r)
    → not t ≡ all_equal x (take k (bits 64 w))
all-low x k w u r t p q e =
    ap not (e ∙ ap any_set q ∙ any-padded (take k (bits 64 u)) 64 (omega (arith, length-take k (bits 64 u), length-bits 64 u))
    ∙ ap (λ (l : List Bool). any_set (take k l)) p ∙ ap any_set (take-map (xor x) k (bits 64 w)))
    ∙ all_any x (take k (bits 64 w))

-- ---- windows

window-map : (f : Bool → Bool) (l : List Bool) (k n : ℕ) → k + n ≤ length l → window (map f l) k n ≡ map f (window l k n)
unfolding window
window-map f l k zero h = refl
window-map f l k (suc n) h =
    ap₂ (λ (x : Bool) (t : List Bool). x ∷ t) (get_or-map f l k false false (omega arith)) (window-map f l (suc k) n (omega arith))

all-cut : (x : Bool) (l : List Bool) (k n a b : ℕ) → n ≡ a + b
    → all_equal x (window l k n) ≡ (all_equal x (window l k a) && all_equal x (window l (k + a) b))
all-cut x l k n a b e =
    ap (λ (m : ℕ). all_equal x (window l k m)) e ∙ ap (all_equal x) (window-add l k a b) ∙ all_append x (window l k a) (window l (k + a) b)

pub all-empty : (x : Bool) (l : List Bool) (p : ℕ) → true ≡ all_equal x (window l p (64 * 0))
unfolding window
all-empty x l p = sym (all_none x)

-- if a part has another flag, the whole has
pub all-exit : (x : Bool) (l : List Bool) (p n k m : ℕ) (t : Bool) → t ≡ all_equal x (window l k m) → t ≡ false → p ≤ k → k + m ≤ p + n
    → false ≡ all_equal x (window l p n)
all-exit x l p n k m t e f g h =
    let a : n ≡ (k - p) + (m + (p + n - (k + m))) = omega arith in
    let b : p + (k - p) ≡ k = omega arith in
    let none : all_equal x (window l (p + (k - p)) m) ≡ false = ap (λ (y : ℕ). all_equal x (window l y m)) b ∙ sym e ∙ f in
    sym (all-cut x l p n (k - p) (m + (p + n - (k + m))) a
    ∙ ap (λ (t : Bool). all_equal x (window l p (k - p)) && t)
    (all-cut x l (p + (k - p)) (m + (p + n - (k + m))) m (p + n - (k + m)) refl
    ∙ ap (λ (t : Bool). t && all_equal x (window l (p + (k - p) + m) (p + n - (k + m)))) none)
    ∙ and-false (all_equal x (window l p (k - p))))

-- a part after another whose flags are all x
pub all_more : (x : Bool) (l : List Bool) (p n k m s : ℕ) (t : Bool) → true ≡ all_equal x (window l p n) → t ≡ all_equal x (window l k m)
    → k ≡ p + n → s ≡ n + m
    → t ≡ all_equal x (window l p s)
all_more x l p n k m s t inv e f g =
    e ∙ ap (λ (y : ℕ). all_equal x (window l y m)) f ∙ ap (λ (t : Bool). t && all_equal x (window l (p + n) m)) inv
    ∙ sym (all-cut x l p s n m g)

-- the low flags of a word that was read at a flag, and of one that was shifted right to it
pub first-are : (x : Bool) (l : List Bool) (at n w : ℕ) (t : Bool) → n ≤ 64 → bits 64 w ≡ window l at 64
    → t ≡ all_equal x (take n (bits 64 w)) → t ≡ all_equal x (window l at n)
first-are x l at n w t h p e =
    let z : at + 0 ≡ at = omega arith in
    e ∙ ap (λ (m : List Bool). all_equal x (take n m)) p ∙ ap (all_equal x) (window-cut l at 64 0 n (omega arith))
    ∙ ap (λ (y : ℕ). all_equal x (window l y n)) z

pub near-are : (x : Bool) (l : List Bool) (start n w : ℕ) (t : Bool) → start % 8 + n ≤ 64
    → bits 64 w ≡ window (window l start (64 - start % 8)) 0 64
    → t ≡ all_equal x (take n (bits 64 w)) → t ≡ all_equal x (window l start n)
near-are x l start n w t h p e = e ∙ ap (all_equal x) (near-first l start n w h p)

-- the first flags of a list's window, those past its end left out: they are not set
any-inside : (l : List Bool) (s n : ℕ) → length l ≡ 64 → s ≤ 64 → any_set (take n (window l s 64)) ≡ any_set (window l s (min n (64 - s)))
any-inside l s n e h = ⊎_elim
    (λ (p : n < 64 - s).
    let a : s + 0 ≡ s = omega arith in
    let b : n ≡ min n (64 - s) = omega arith in
    ap any_set (window-cut l s 64 0 n (omega arith)) ∙ ap₂ (λ (x y : ℕ). any_set (window l x y)) a b)
    (λ (p : 64 - s ≤ n).
    let m : min n 64 ≡ (64 - s) + (min n 64 - (64 - s)) = omega arith in
    let b : 64 - s ≡ min n (64 - s) = omega arith in
    ap any_set (first p) ∙ ap (λ (y : ℕ). any_set (window l s y)) m ∙ any-add l s (64 - s) (min n 64 - (64 - s))
    ∙ ap (λ (t : List Bool). any_set (window l s (64 - s)) || any_set t) (window-past l (s + (64 - s)) (min n 64 - (64 - s)) (omega arith))
    ∙ ap (λ (t : Bool). any_set (window l s (64 - s)) || t)
    (any-copies (min n 64 - (64 - s)) false ∙ and-false (ltb 0 (min n 64 - (64 - s))))
    ∙ or-false (any_set (window l s (64 - s))) ∙ ap (λ (y : ℕ). any_set (window l s y)) b)
    (cases_lt n (64 - s))
  where
    first : 64 - s ≤ n → take n (window l s 64) ≡ window l s (min n 64)
    first p = ⊎_elim
        (λ (q : n < 64).
        let a : s + 0 ≡ s = omega arith in
        let b : n ≡ min n 64 = omega arith in
        window-cut l s 64 0 n (omega arith) ∙ ap₂ (window l) a b)
        (λ (q : 64 ≤ n).
        let b : 64 ≡ min n 64 = omega arith in
        take_all n (window l s 64) (omega (arith, length-window l s 64)) ∙ ap (window l s) b)
        (cases_lt n 64)

-- a flag other than x among the first flags of the eight bytes in which a stretch begins
pub differs : (x : Bool) (l : List Bool) (start n w u v r : ℕ) (t : Bool) → bits 64 w ≡ window l (8 * (start / 8)) 64
    → bits 64 u ≡ map (xor x) (bits 64 w)
    → bits 64 v ≡ window (bits 64 u) (start % 8) 64 → bits 64 r ≡ window (take n (bits 64 v)) 0 64 → t ≡ any_set (bits 64 r)
    → t ≡ not (all_equal x (window l start (min n (64 - start % 8))))
differs x l start n w u v r t pw pu pv pr pt =
    let k : ℕ = min n (64 - start % 8) in
    let at : 8 * (start / 8) + start % 8 ≡ start = omega arith in
    let near : window (bits 64 w) (start % 8) k ≡ window l start k =
    ap (λ (m : List Bool). window m (start % 8) k) pw ∙ in_window l (8 * (start / 8)) 64 (start % 8) k (omega arith)
    ∙ ap (λ (y : ℕ). window l y k) at in
    let some : t ≡ any_set (map (xor x) (window l start k)) =
    pt ∙ ap any_set pr ∙ any-padded (take n (bits 64 v)) 64 (omega (arith, length-take n (bits 64 v), length-bits 64 v))
    ∙ ap (λ (m : List Bool). any_set (take n m)) pv ∙ any-inside (bits 64 u) (start % 8) n (length-bits 64 u) (omega arith)
    ∙ ap (λ (m : List Bool). any_set (window m (start % 8) k)) pu
    ∙ ap any_set (window-map (xor x) (bits 64 w) (start % 8) k (omega (arith, length-bits 64 w)))
    ∙ ap (λ (m : List Bool). any_set (map (xor x) m)) near in
    some ∙ sym (not-not (any_set (map (xor x) (window l start k)))) ∙ ap not (all_any x (window l start k))

pub too_few : (x : Bool) (bytes : List ℕ) (start n : ℕ) → length bytes < start / 8 + 8 → false ≡ differs_early x bytes start n
unfolding differs_early
too_few x bytes start n h = rw (lt-leb (start / 8 + 8) (length bytes) h)

pub enough : (x : Bool) (bytes : List ℕ) (start n : ℕ) (t : Bool) → start / 8 + 8 ≤ length bytes
    → t ≡ not (all_equal x (window (flags_of bytes) start (min n (64 - start % 8))))
    → t ≡ differs_early x bytes start n
unfolding differs_early
enough x bytes start n t h e = rw (le-leb (start / 8 + 8) (length bytes) h) e

-- if a flag differs early, not all flags of the stretch are x
pub early-other : (x : Bool) (bytes : List ℕ) (start n : ℕ) (t : Bool) → t ≡ differs_early x bytes start n → t ≡ true
    → all_equal x (window (flags_of bytes) start n) ≡ false
unfolding differs_early
early-other x bytes start n t e said = go (leb (start / 8 + 8) (length bytes)) (sym said ∙ e)
  where
    first : List Bool
    first = window (flags_of bytes) start (min n (64 - start % 8))

    go : (b : Bool) → true ≡ (b && not (all_equal x first)) → all_equal x (window (flags_of bytes) start n) ≡ false
    go true p =
        sym (all-exit x (flags_of bytes) start n start (min n (64 - start % 8)) (all_equal x first) refl
        (not-true (all_equal x first) (sym p))
        (omega arith) (omega arith))
    go false p = absurd (true≢false p)

-- ---- word by word

pub length_unlike : (x : Bool) (l : List Bool) (p n : ℕ) → length (map (xor x) (window l p n)) ≡ n
length_unlike x l p n = length-map (window l p n) (xor x) ∙ length-window l p n

-- word i of a stretch, each flag changed
pub map-word : (f : Bool → Bool) (l : List Bool) (p n i x w u : ℕ) → 64 * i + 64 ≤ n → x ≡ p + 64 * i → bits 64 w ≡ window l x 64
    → bits 64 u ≡ map f (bits 64 w)
    → bits 64 u ≡ window (map f (window l p n)) (64 * i) 64
map-word f l p n i x w u h e q r =
    r ∙ ap (map f) (span-word l p n i x w h e q) ∙ sym (window-map f (window l p n) (64 * i) 64 (omega (arith, length-window l p n)))

-- ---- by the count, of n flags

pub counted-one : (x : Bool) (l : List Bool) (p n c : ℕ) → x ≡ true → c ≡ count (window l p n) → eqb c n ≡ all_equal x (window l p n)
unfolding all_equal
counted-one x l p n c e q =
    let one : length (window l p n) * digit x ≡ n =
    ap (λ (y : Bool). length (window l p n) * digit y) e ∙ omega (arith, length-window l p n) in
    ap₂ eqb q (sym one)

pub counted-zero : (x : Bool) (l : List Bool) (p n c : ℕ) → x ≡ false → c ≡ count (window l p n) → eqb c 0 ≡ all_equal x (window l p n)
unfolding all_equal
counted-zero x l p n c e q =
    let none : length (window l p n) * digit x ≡ 0 = ap (λ (y : Bool). length (window l p n) * digit y) e ∙ omega arith in
    ap₂ eqb q (sym none)
