-- How many flags of a list are set: of lists joined, padded, inverted, and word by word.
use Rattle.std.proofs.Common.{◌≡◌, refl, sym, ap, ap₂, ◌∙◌, Bool, true, false, not, List, [], ◌∷◌, ◌++◌, map, ⊎_elim, ℕ, zero, suc, ◌+◌}
use Rattle.std.proofs.Common.{◌-◌, ◌*◌, ◌/◌, ◌%◌, ◌^◌, ◌≤◌, ◌<◌, zero-add, mod-lt, zero-lt-suc, arith, length, take, length-take}
use Rattle.std.proofs.Math.Arith.{lt-one}
use Rattle.std.specs.Int.Count.{ones, ones_step}
use Rattle.std.proofs.lemmas.Bool.{cases_lt}
use Rattle.words.specs.Flags.{bits, copies, count, digit, window}
use Rattle.words.proofs.flags.Bits.{length-bits, digit-is_one, half_lt}
use Rattle.words.proofs.flags.Windows.{length-window, window-add, window-all, window-past, in_window}

-- the processor's count of a number's ones is the count of its flags
pub ones-bits : (d n : ℕ) → n < 2 ^ d → count (bits d n) ≡ ones n
unfolding bits count ones
ones-bits zero n h = sym (ap ones (lt-one h))
ones-bits (suc d) n h =
    ap₂ (λ (x y : ℕ). x + y) (digit-is_one (n % 2) (mod-lt n (zero-lt-suc 1))) (ones-bits d (n / 2) (half_lt d n h)) ∙ sym (ones_step n)

pub count-append : (l m : List Bool) → count (l ++ m) ≡ count l + count m
unfolding count
count-append [] m = sym (zero-add (count m))
count-append (b ∷ l) m = let ih : count (l ++ m) ≡ count l + count m = count-append l m in omega arith

pub count-le : (l : List Bool) → count l ≤ length l
unfolding count
count-le [] = omega arith
count-le (true ∷ l) = let h : count l ≤ length l = count-le l in omega arith
count-le (false ∷ l) = let h : count l ≤ length l = count-le l in omega arith

-- the count of n copies of a flag
pub count-copies : (n : ℕ) (x : Bool) → count (copies n x) ≡ n * digit x
unfolding count copies
count-copies zero x = omega arith
count-copies (suc n) true = let h : count (copies n true) ≡ n * 1 = count-copies n true in omega arith
count-copies (suc n) false = let h : count (copies n false) ≡ n * 0 = count-copies n false in omega arith

pub count-not : (l : List Bool) → count l + count (map not l) ≡ length l
unfolding count
count-not [] = refl
count-not (true ∷ l) = let h : count l + count (map not l) ≡ length l = count-not l in omega arith
count-not (false ∷ l) = let h : count l + count (map not l) ≡ length l = count-not l in omega arith

-- a window cut in two
pub count_add : (l : List Bool) (k a b : ℕ) → count (window l k (a + b)) ≡ count (window l k a) + count (window l (k + a) b)
count_add l k a b = ap count (window-add l k a b) ∙ count-append (window l k a) (window l (k + a) b)

count_cut : (l : List Bool) (k n a b : ℕ) → n ≡ a + b → count (window l k n) ≡ count (window l k a) + count (window l (k + a) b)
count_cut l k n a b e = ap (λ (x : ℕ). count (window l k x)) e ∙ count_add l k a b

-- past the end of a list nothing is counted
pub count_past : (l : List Bool) (k n : ℕ) → length l ≤ k → count (window l k n) ≡ 0
count_past l k n h = ap count (window-past l k n h) ∙ count-copies n false ∙ omega arith

pub count-padded : (l : List Bool) (d : ℕ) → length l ≤ d → count (window l 0 d) ≡ count l
count-padded l d h =
    let e : d ≡ length l + (d - length l) = omega arith in
    let a = count_cut l 0 d (length l) (d - length l) e in
    let b : count (window l 0 (length l)) ≡ count l = ap count (window-all l) in
    let c : count (window l (0 + length l) (d - length l)) ≡ 0 = count_past l (0 + length l) (d - length l) (omega arith) in
    omega arith

-- the flags of a part are among those of the whole
pub count-inside : (l : List Bool) (k n : ℕ) → count (window l k n) ≤ count l
count-inside l k n =
    let z : 0 + k ≡ k = omega arith in
    let a : count (window l 0 (k + n + length l)) ≡ count l = count-padded l (k + n + length l) (omega arith) in
    let b : count (window l 0 (k + n + length l)) ≡ count (window l 0 (k + n)) + count (window l (0 + (k + n)) (length l)) =
    count_add l 0 (k + n) (length l) in
    let c : count (window l 0 (k + n)) ≡ count (window l 0 k) + count (window l (0 + k) n) = count_add l 0 k n in
    let d : count (window l (0 + k) n) ≡ count (window l k n) = ap (λ (x : ℕ). count (window l x n)) z in
    omega arith

pub count-within : (l : List Bool) (p n c : ℕ) → c ≡ count (window l p n) → c ≤ n
count-within l p n c e = omega (arith, count-le (window l p n), length-window l p n)

pub count_word : (w k : ℕ) → k ≡ count (bits 64 w) → k ≤ 64
count_word w k e = omega (arith, count-le (bits 64 w), length-bits 64 w)

-- ---- word by word

-- one more word
pub count-step : (l : List Bool) (i w c k : ℕ) → c ≡ count (window l 0 (64 * i)) → bits 64 w ≡ window l (64 * i) 64 → k ≡ count (bits 64 w)
    → c + k ≡ count (window l 0 (64 * (i + 1)))
count-step l i w c k inv q u =
    let n : 64 * (i + 1) ≡ 64 * i + 64 = omega arith in
    let z : 0 + 64 * i ≡ 64 * i = omega arith in
    let a = count_cut l 0 (64 * (i + 1)) (64 * i) 64 n in
    let b : k ≡ count (window l (0 + 64 * i) 64) = u ∙ ap count (q ∙ ap (λ (m : ℕ). window l m 64) (sym z)) in
    omega arith

pub count_none : (l : List Bool) (p : ℕ) → 0 ≡ count (window l p 0)
unfolding window count
count_none l p = refl

-- if all words of a list are counted, the list is
pub count-all : (l : List Bool) (i n c : ℕ) → c ≡ count (window l 0 (64 * i)) → length l ≡ 64 * n → i ≤ n → n ≤ i → c ≡ count l
count-all l i n c p e h k = p ∙ count-padded l (64 * i) (omega arith)

-- word i of a stretch
pub span-word : (l : List Bool) (p n i x w : ℕ) → 64 * i + 64 ≤ n → x ≡ p + 64 * i → bits 64 w ≡ window l x 64
    → bits 64 w ≡ window (window l p n) (64 * i) 64
span-word l p n i x w h e q = q ∙ ap (λ (m : ℕ). window l m 64) e ∙ sym (in_window l p n (64 * i) 64 h)

-- a stretch in three parts
pub count-parts : (l : List Bool) (p len h m o a b c x y z : ℕ) → x ≡ count (window l o h) → y ≡ count (window l a m)
    → z ≡ count (window l b c) → o ≡ p → a ≡ p + h
    → b ≡ p + h + m → len ≡ h + m + c → x + y + z ≡ count (window l p len)
count-parts l p len h m o a b c x y z ex ey ez eo ea eb el =
    let n : len ≡ h + (m + c) = omega arith in
    let s1 = count_cut l p len h (m + c) n in
    let s2 : count (window l (p + h) (m + c)) ≡ count (window l (p + h) m) + count (window l (p + h + m) c) = count_add l (p + h) m c in
    let x2 : x ≡ count (window l p h) = ex ∙ ap (λ (k : ℕ). count (window l k h)) eo in
    let y2 : y ≡ count (window l (p + h) m) = ey ∙ ap (λ (k : ℕ). count (window l k m)) ea in
    let z2 : z ≡ count (window l (p + h + m) c) = ez ∙ ap (λ (k : ℕ). count (window l k c)) eb in
    omega arith

pub count-stretch : (l : List Bool) (p o n m c : ℕ) → c ≡ count (window l o m) → o ≡ p → m ≡ n → c ≡ count (window l p n)
count-stretch l p o n m c h eo em = h ∙ ap₂ (λ (x y : ℕ). count (window l x y)) eo em

pub count_most : (l : List Bool) (n c : ℕ) → c ≡ count l → length l ≡ n → c ≤ n
count_most l n c e h = omega (arith, count-le l)

pub count_fits : (l : List Bool) (k m n c : ℕ) → c ≡ count (window l k m) → length l ≡ n → c ≤ n
count_fits l k m n c e h = omega (arith, count-inside l k m, count-le l)

-- at most k of the k low flags of a word are set
pub low-within : (k w r c : ℕ) → bits 64 r ≡ window (take k (bits 64 w)) 0 64 → c ≡ count (bits 64 r) → c ≤ k
low-within k w r c p q =
    let e : c ≡ count (window (take k (bits 64 w)) 0 64) = q ∙ ap count p in
    ⊎_elim
    (λ (h : k < 64).
    let a : count (window (take k (bits 64 w)) 0 64) ≡ count (take k (bits 64 w)) =
    count-padded (take k (bits 64 w)) 64 (omega (arith, length-take k (bits 64 w))) in
    omega (arith, count-le (take k (bits 64 w)), length-take k (bits 64 w)))
    (λ (h : 64 ≤ k). omega (arith, count-le (window (take k (bits 64 w)) 0 64), length-window (take k (bits 64 w)) 0 64))
    (cases_lt k 64)

-- a list of at most 64 flags, by its word
pub count-short : (l : List Bool) (len w c : ℕ) → length l ≡ len → len ≤ 64 → bits 64 w ≡ window l 0 64 → c ≡ count (bits 64 w)
    → c ≡ count l
count-short l len w c e h p q = q ∙ ap count p ∙ count-padded l 64 (omega arith)

-- a list of m flags whose flags after the first n are all equal
pub count-after : (l : List Bool) (m n c d : ℕ) (x : Bool) → c ≡ count (window l 0 n) → length l ≡ m → d ≡ (m - n) * digit x
    → (n < m → window l n (m - n) ≡ copies (m - n) x) → c + d ≡ count l
count-after l m n c d x p e q h = ⊎_elim
    (λ (k : n < m).
    let a : m ≡ n + (m - n) = omega arith in
    let z : 0 + n ≡ n = omega arith in
    let whole : count l ≡ count (window l 0 n) + count (window l (0 + n) (m - n)) =
    sym (count-padded l m (omega arith)) ∙ count_cut l 0 m n (m - n) a in
    let rest : count (window l (0 + n) (m - n)) ≡ (m - n) * digit x =
    ap (λ (i : ℕ). count (window l i (m - n))) z ∙ ap count (h k) ∙ count-copies (m - n) x in
    omega arith)
    (λ (k : m ≤ n).
    let none : m - n ≡ 0 = omega arith in
    let b : d ≡ 0 = q ∙ ap (λ (i : ℕ). i * digit x) none ∙ omega arith in
    let a : count (window l 0 n) ≡ count l = count-padded l n (omega arith) in
    omega arith)
    (cases_lt n m)
