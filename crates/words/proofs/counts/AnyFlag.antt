-- Whether a flag of a list is set, and whether two lists are the same: word by word, with an end at the first that has one.
use Rattle.std.specs.Bool.{MatchBool}
use Rattle.std.specs.List.{AllWithin, HoldsAt, range_with_len}
use Rattle.std.proofs.lemmas.Bool.{true≢false}
use Rattle.std.proofs.lemmas.List.FromFn.{length-range_with_len, get_or-range_with_len}
use Rattle.std.proofs.Common.{◌≡◌, refl, sym, ap, ap₂, ◌∙◌, Bool, true, false, not, ◌&&◌, ◌||◌, List, [], ◌∷◌, ◌++◌, ◌⊎◌, inl, inr}
use Rattle.std.proofs.Common.{⊎_elim, ℕ, zero, suc, ◌+◌, ◌-◌, ◌*◌, ◌^◌, ◌≤◌, ◌<◌, arith, eqb, ltb, length, drop, length-drop, eq-eqb}
use Rattle.std.proofs.Common.{ne_eqb, lt-ltb, le-ltb, ltb-true, ltb-false}
use Rattle.std.proofs.Math.Bool.{xor, and-true, and-false}
use mathlib.Core.List.{zip_with}
use Rattle.std.proofs.lemmas.Bool.{cases_lt}
use Rattle.words.specs.Flags.{bits, copies, count, digit, word_of, window}
use Rattle.words.specs.Ops.{zip3}
use Rattle.words.specs.Counts.{any_set, same_flags}
use Rattle.words.proofs.flags.Bits.{length-bits, bits-zero, word_of_bits}
use Rattle.words.proofs.counts.Counting.{count_add, count-inside, count-padded, count-after}
use Rattle.words.proofs.flags.Windows.{window-add, window-drop, window-all}

pub any_append : (a b : List Bool) → any_set (a ++ b) ≡ (any_set a || any_set b)
unfolding any_set
any_append [] b = refl
any_append (true ∷ a) b = refl
any_append (false ∷ a) b = any_append a b

or_swap : (x y s t : Bool) → ((x || y) || (s || t)) ≡ ((x || s) || (y || t))
or_swap true y s t = refl
or_swap false true true t = refl
or_swap false true false t = refl
or_swap false false s t = refl

any-or : (a b : List Bool) → length a ≡ length b → any_set (zip_with ◌||◌ a b) ≡ (any_set a || any_set b)
unfolding any_set zip_with
any-or [] [] e = refl
any-or [] (y ∷ b) e = absurd (omega arith)
any-or (x ∷ a) [] e = absurd (omega arith)
any-or (x ∷ a) (y ∷ b) e = ap (λ (t : Bool). (x || y) || t) (any-or a b (omega arith)) ∙ or_swap x y (any_set a) (any_set b)

pub any-copies : (n : ℕ) (x : Bool) → any_set (copies n x) ≡ (ltb 0 n && x)
unfolding any_set copies
any-copies zero x = rw (le-ltb 0 0 (omega arith))
any-copies (suc n) true = rw (lt-ltb 0 (suc n) (omega arith))
any-copies (suc n) false = any_false n ∙ rw (lt-ltb 0 (suc n) (omega arith))
  where
    any_false : (n : ℕ) → any_set (copies n false) ≡ false
    any_false zero = refl
    any_false (suc n) = any_false n

-- a window cut in two
pub any-add : (l : List Bool) (k a b : ℕ) → any_set (window l k (a + b)) ≡ (any_set (window l k a) || any_set (window l (k + a) b))
any-add l k a b = ap any_set (window-add l k a b) ∙ any_append (window l k a) (window l (k + a) b)

pub any_none : (Z : List Bool) → any_set (bits 64 0) ≡ any_set (window Z 0 0)
unfolding window any_set
any_none Z = ap any_set (bits-zero 64) ∙ any-copies 64 false

-- one more word joined by `or`
pub any_step : (Z : List Bool) (i v w r : ℕ) → any_set (bits 64 v) ≡ any_set (window Z 0 (64 * i))
    → bits 64 w ≡ window Z (64 * i) 64 → bits 64 r ≡ zip_with ◌||◌ (bits 64 v) (bits 64 w)
    → any_set (bits 64 r) ≡ any_set (window Z 0 (64 * (i + 1)))
any_step Z i v w r inv new op =
    let n : 64 * i + 64 ≡ 64 * (i + 1) = omega arith in
    let z : 64 * i ≡ 0 + 64 * i = omega arith in
    ap any_set op ∙ any-or (bits 64 v) (bits 64 w) (length-bits 64 v ∙ sym (length-bits 64 w))
    ∙ ap₂ (λ (x y : Bool). x || y) inv (ap any_set (new ∙ ap (λ (x : ℕ). window Z x 64) z))
    ∙ sym (any-add Z 0 (64 * i) 64) ∙ ap (λ (x : ℕ). any_set (window Z 0 x)) n

pub any-all : (Z : List Bool) (i n w : ℕ) → any_set (bits 64 w) ≡ any_set (window Z 0 (64 * i)) → length Z ≡ 64 * n → i ≤ n → n ≤ i
    → any_set (bits 64 w) ≡ any_set Z
any-all Z i n w p l h k =
    let e : 64 * i ≡ length Z = omega arith in p ∙ ap (λ (x : ℕ). any_set (window Z 0 x)) e ∙ ap any_set (window-all Z)

-- ---- a word with a flag set is not zero

pub none-zero : (l : List Bool) → any_set l ≡ false → word_of l ≡ 0
unfolding any_set word_of
none-zero [] e = refl
none-zero (true ∷ l) e = absurd (let z : ◌≡◌ {A = ℕ} 0 1 = cc e in omega arith)
none-zero (false ∷ l) e = let h : word_of l ≡ 0 = none-zero l e in omega arith

pub zero-none : (d : ℕ) → any_set (bits d 0) ≡ false
zero-none d = ap any_set (bits-zero d) ∙ any-copies d false ∙ and-false (ltb 0 d)

pub word-any : (d w : ℕ) → w < 2 ^ d → not (eqb w 0) ≡ any_set (bits d w)
word-any d w h = ⊎_elim
    (λ (p : 0 < w). ap not (ne_eqb w 0 (λ e. omega arith)) ∙ sym (some (any_set (bits d w)) refl p))
    (λ (p : w ≤ 0). let e : w ≡ 0 = omega arith in ap not (eq-eqb w 0 e) ∙ sym (ap (λ (x : ℕ). any_set (bits d x)) e ∙ zero-none d))
    (cases_lt 0 w)
  where
    some : (t : Bool) → any_set (bits d w) ≡ t → 0 < w → t ≡ true
    some true e p = refl
    some false e p = absurd (let z : w ≡ 0 = sym (word_of_bits d w h) ∙ none-zero (bits d w) e in omega arith)

-- ---- by the count

pub any-count : (l : List Bool) → any_set l ≡ ltb 0 (count l)
unfolding any_set count
any-count [] = rw (le-ltb 0 0 (omega arith))
any-count (true ∷ l) = rw (lt-ltb 0 (1 + count l) (omega arith))
any-count (false ∷ l) = let z : 0 + count l ≡ count l = omega arith in any-count l ∙ ap (ltb 0) (sym z)

pub any_some : (l : List Bool) → true ≡ any_set l → 0 < count l
any_some l e = ltb-true 0 (count l) (sym (e ∙ any-count l))

pub any-zero : (l : List Bool) → false ≡ any_set l → count l ≡ 0
any-zero l e = let h : count l ≤ 0 = ltb-false 0 (count l) (sym (e ∙ any-count l)) in omega arith

pub some-any : (l : List Bool) → 0 < count l → true ≡ any_set l
some-any l h = sym (any-count l ∙ lt-ltb 0 (count l) h)

pub zero-any : (l : List Bool) → count l ≡ 0 → false ≡ any_set l
zero-any l e = sym (any-count l ∙ le-ltb 0 (count l) (omega arith))

-- zeros after a list set nothing
pub any-padded : (l : List Bool) (d : ℕ) → length l ≤ d → any_set (window l 0 d) ≡ any_set l
any-padded l d h = any-count (window l 0 d) ∙ ap (ltb 0) (count-padded l d h) ∙ sym (any-count l)

-- a list of at most 64 flags, by its word
pub any-short : (l : List Bool) (len w : ℕ) (t : Bool) → length l ≡ len → len ≤ 64 → bits 64 w ≡ window l 0 64 → t ≡ any_set (bits 64 w)
    → t ≡ any_set l
any-short l len w t e h p q = q ∙ ap any_set p ∙ any-padded l 64 (omega arith)

-- ---- with an end at the first words that have one

-- if a part has a flag set, the whole list has
pub any-exit : (Z : List Bool) (k n : ℕ) (t : Bool) → t ≡ any_set (window Z k n) → t ≡ true → true ≡ any_set Z
any-exit Z k n t p e = some-any Z (omega (arith, any_some (window Z k n) (sym e ∙ p), count-inside Z k n))

-- if the first m flags have none set and the next n have none, the first m + n have none
pub any-more : (Z : List Bool) (m n k : ℕ) (t : Bool) → 0 ≡ count (window Z 0 m) → t ≡ any_set (window Z m n) → t ≡ false → m + n ≡ k
    → 0 ≡ count (window Z 0 k)
any-more Z m n k t inv p e h =
    let z : 0 + m ≡ m = omega arith in
    let a : count (window Z 0 (m + n)) ≡ count (window Z 0 m) + count (window Z (0 + m) n) = count_add Z 0 m n in
    let b : count (window Z (0 + m) n) ≡ 0 = ap (λ (x : ℕ). count (window Z x n)) z ∙ any-zero (window Z m n) (sym e ∙ p) in
    let c : 0 ≡ count (window Z 0 (m + n)) = omega arith in
    c ∙ ap (λ (x : ℕ). count (window Z 0 x)) h

-- words in a row, none of which has a flag set
pub any-passed : (Z : List Bool) (a n : ℕ) → ((k : ℕ) → k < n → false ≡ any_set (window Z (64 * (a + k)) 64))
    → 0 ≡ count (window Z 0 (64 * a))
    → 0 ≡ count (window Z 0 (64 * (a + n)))
any-passed Z a zero none inv =
    let e : a ≡ a + 0 = omega arith in
    inv ∙ ap (λ (x : ℕ). count (window Z 0 (64 * x))) e
any-passed Z a (suc n) none inv =
    any-more Z (64 * (a + n)) 64 (64 * (a + suc n)) false (any-passed Z a n (λ k h. none k (omega (arith, h))) inv) (none n (omega arith))
    refl (omega arith)

-- the answer t is that of word i
abbrev pub AnyIn : List Bool → Bool → ℕ → Type 0
AnyIn Z t i = t ≡ any_set (window Z (64 * i) 64)

-- what the answer of a search of words a to b states about them
abbrev pub Among : List Bool → ℕ → ℕ → Bool → Type 0
Among Z a b r = MatchBool r
    ((k : ℕ) × (k < length (range_with_len a (b - a))) × HoldsAt (AnyIn Z true) (range_with_len a (b - a)) k)
    (AllWithin (AnyIn Z false) (range_with_len a (b - a)) 0 (length (range_with_len a (b - a))))

pub any-among : (Z : List Bool) (a b : ℕ) (r : Bool) → Among Z a b r → r ≡ true → true ≡ any_set Z
any-among Z a b true (k, h, p) e = any-exit Z _ 64 true (p 0) refl
any-among Z a b false none e = absurd (true≢false (sym e))

pub none-among : (Z : List Bool) (a b : ℕ) (r : Bool) → Among Z a b r → r ≡ false → a ≤ b
    → 0 ≡ count (window Z 0 (64 * a)) → 0 ≡ count (window Z 0 (64 * b))
none-among Z a b true some e h inv = absurd (true≢false e)
none-among Z a b false none e h inv =
    let m : a + (b - a) ≡ b = omega arith in
    any-passed Z a (b - a)
    (λ k l. none k 0 (omega arith) (omega (arith, l, length-range_with_len a (b - a)))
    ∙ ap (λ (x : ℕ). any_set (window Z (64 * x) 64)) (get_or-range_with_len a (b - a) k 0 l)) inv
    ∙ ap (λ (x : ℕ). count (window Z 0 (64 * x))) m

-- a list of m flags with none set among the first n, whose flags after the first n are all equal
pub any_after : (Z : List Bool) (m n : ℕ) (x t : Bool) → 0 ≡ count (window Z 0 n) → length Z ≡ m
    → t ≡ (ltb n m && x) → (n < m → window Z n (m - n) ≡ copies (m - n) x) → t ≡ any_set Z
any_after Z m n x t p e q h = q ∙ go x refl (cases_lt n m) ∙ sym (any-count Z)
  where
    all : 0 + (m - n) * digit x ≡ count Z
    all = count-after Z m n 0 ((m - n) * digit x) x p e refl h

    go : (y : Bool) → x ≡ y → (n < m) ⊎ (m ≤ n) → (ltb n m && y) ≡ ltb 0 (count Z)
    go true f (inl k) =
        let one : (m - n) * digit x ≡ m - n = ap (λ (b : Bool). (m - n) * digit b) f ∙ omega arith in
        and-true (ltb n m) ∙ lt-ltb n m k ∙ sym (lt-ltb 0 (count Z) (omega (arith, all)))
    go true f (inr k) =
        let one : (m - n) * digit x ≡ m - n = ap (λ (b : Bool). (m - n) * digit b) f ∙ omega arith in
        and-true (ltb n m) ∙ le-ltb n m k ∙ sym (le-ltb 0 (count Z) (omega (arith, all)))
    go false f k =
        let none : (m - n) * digit x ≡ 0 = ap (λ (b : Bool). (m - n) * digit b) f ∙ omega arith in
        and-false (ltb n m) ∙ sym (le-ltb 0 (count Z) (omega (arith, all)))

-- ---- two lists are the same if and only if no flag of their `xor` is set

not-or : (x y : Bool) → not (x || y) ≡ (not x && not y)
not-or true y = refl
not-or false y = refl

pub same-any : (a b : List Bool) → length a ≡ length b → not (any_set (zip3 (λ x y z. xor x y) a b b)) ≡ same_flags a b
unfolding any_set same_flags zip3
same-any [] [] e = refl
same-any [] (y ∷ b) e = absurd (omega arith)
same-any (x ∷ a) [] e = absurd (omega arith)
same-any (x ∷ a) (y ∷ b) e =
    not-or (xor x y) (any_set (zip3 (λ x y z. xor x y) a b b)) ∙ ap (λ (t : Bool). not (xor x y) && t) (same-any a b (omega arith))

-- a window that reaches the end of the list
pub any-drop : (l : List Bool) (k n : ℕ) → length l ≤ k + n → any_set (window l k n) ≡ any_set (drop k l)
any-drop l k n h =
    let z : k ≡ k + 0 = omega arith in
    any-count (window l k n)
    ∙ ap (ltb 0) (ap (λ (x : ℕ). count (window l x n)) z ∙ ap count (sym (window-drop l k 0 n))
    ∙ count-padded (drop k l) n (omega (arith, length-drop k l)))
    ∙ sym (any-count (drop k l))
