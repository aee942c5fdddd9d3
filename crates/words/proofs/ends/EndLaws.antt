-- How many flags at either end are equal: in lists joined, cut, inverted and shifted, and in a number's bits.
use Rattle.std.proofs.Common.{◌≡◌, refl, sym, ap, ap₂, ◌∙◌, Bool, true, false, not, List, [], ◌∷◌, ◌++◌, map, reverse, ⊎_elim, ℕ, zero}
use Rattle.std.proofs.Common.{suc, ◌+◌, ◌-◌, ◌*◌, ◌/◌, ◌%◌, ◌^◌, ◌≤◌, ◌<◌, min, pow_pos, arith, length, take, take_all}
use Rattle.std.proofs.Math.ListN.{length-reverse}
use mathlib.Core.List.{reverse-cons}
use Rattle.std.proofs.lemmas.List.{reverse-append, reverse-reverse}
use Rattle.std.specs.Int.Count.{count_trailing_zeros, count_leading_zeros, under}
use Rattle.std.proofs.lemmas.Bool.{cases_lt}
use Rattle.words.specs.Flags.{is_one, bits, copies}
use Rattle.words.specs.Ends.{leading, trailing}
use Rattle.words.proofs.flags.Bits.{length-bits, bits-zero, bits-inj, bits-mod, bits-shl, bits-take, half_lt}

-- ---- at the front

pub leading_le : (x : Bool) (l : List Bool) → leading x l ≤ length l
unfolding leading
leading_le x [] = omega arith
leading_le true (true ∷ l) = omega (arith, leading_le true l)
leading_le true (false ∷ l) = omega arith
leading_le false (true ∷ l) = omega arith
leading_le false (false ∷ l) = omega (arith, leading_le false l)

-- the front of a joined list is that of the first part, unless all flags of this are x
pub leading-some : (x : Bool) (a b : List Bool) → leading x a < length a → leading x (a ++ b) ≡ leading x a
unfolding leading
leading-some x [] b h = absurd (omega arith)
leading-some true (true ∷ a) b h = ap suc (leading-some true a b (omega arith))
leading-some true (false ∷ a) b h = refl
leading-some false (true ∷ a) b h = refl
leading-some false (false ∷ a) b h = ap suc (leading-some false a b (omega arith))

pub leading-all : (x : Bool) (a b : List Bool) → length a ≤ leading x a → leading x (a ++ b) ≡ length a + leading x b
unfolding leading
leading-all x [] b h = omega arith
leading-all true (true ∷ a) b h =
    let ih : leading true (a ++ b) ≡ length a + leading true b = leading-all true a b (omega arith) in omega arith
leading-all true (false ∷ a) b h = absurd (omega arith)
leading-all false (true ∷ a) b h = absurd (omega arith)
leading-all false (false ∷ a) b h =
    let ih : leading false (a ++ b) ≡ length a + leading false b = leading-all false a b (omega arith) in omega arith

-- the front of a list's first k flags
pub leading-take : (x : Bool) (k : ℕ) (l : List Bool) → min (leading x l) k ≡ leading x (take k l)
unfolding leading
leading-take x zero l = omega arith
leading-take x (suc k) [] = omega arith
leading-take true (suc k) (true ∷ l) = let ih : min (leading true l) k ≡ leading true (take k l) = leading-take true k l in omega arith
leading-take true (suc k) (false ∷ l) = omega arith
leading-take false (suc k) (true ∷ l) = omega arith
leading-take false (suc k) (false ∷ l) = let ih : min (leading false l) k ≡ leading false (take k l) = leading-take false k l in omega arith

-- ones are zeros of the inverted list
pub leading-not : (l : List Bool) → leading false (map not l) ≡ leading true l
unfolding leading
leading-not [] = refl
leading-not (true ∷ l) = ap suc (leading-not l)
leading-not (false ∷ l) = refl

leading-copies : (x : Bool) (n : ℕ) → leading x (copies n x) ≡ n
unfolding leading copies
leading-copies true zero = refl
leading-copies false zero = refl
leading-copies true (suc n) = ap suc (leading-copies true n)
leading-copies false (suc n) = ap suc (leading-copies false n)

-- a list whose flags are all x
pub all_alike : (x : Bool) (l : List Bool) → length l ≤ leading x l → l ≡ copies (length l) x
unfolding leading copies
all_alike x [] h = refl
all_alike true (true ∷ l) h = ap (λ (t : List Bool). true ∷ t) (all_alike true l (omega arith))
all_alike true (false ∷ l) h = absurd (omega arith)
all_alike false (true ∷ l) h = absurd (omega arith)
all_alike false (false ∷ l) h = ap (λ (t : List Bool). false ∷ t) (all_alike false l (omega arith))

-- ---- at the end

pub trailing_le : (x : Bool) (l : List Bool) → trailing x l ≤ length l
unfolding trailing
trailing_le x l = omega (arith, leading_le x (reverse l), length-reverse l)

pub trailing-some : (x : Bool) (a b : List Bool) → trailing x b < length b → trailing x (a ++ b) ≡ trailing x b
unfolding trailing
trailing-some x a b h = ap (leading x) (reverse-append a b) ∙ leading-some x (reverse b) (reverse a) (omega (arith, length-reverse b))

pub trailing-all : (x : Bool) (a b : List Bool) → length b ≤ trailing x b → trailing x (a ++ b) ≡ length b + trailing x a
unfolding trailing
trailing-all x a b h =
    ap (leading x) (reverse-append a b) ∙ leading-all x (reverse b) (reverse a) (omega (arith, length-reverse b))
    ∙ ap (λ (n : ℕ). n + leading x (reverse a)) (length-reverse b)

-- the end of the last part of a joined list
trailing-last : (x : Bool) (a b : List Bool) → min (trailing x (a ++ b)) (length b) ≡ trailing x b
trailing-last x a b = ⊎_elim
    (λ (h : trailing x b < length b). omega (arith, trailing-some x a b h))
    (λ (h : length b ≤ trailing x b). omega (arith, trailing-all x a b h, trailing_le x b))
    (cases_lt (trailing x b) (length b))

copies-snoc : (n : ℕ) (x : Bool) → copies n x ++ (x ∷ []) ≡ copies (suc n) x
unfolding copies
copies-snoc zero x = refl
copies-snoc (suc n) x = ap (λ (t : List Bool). x ∷ t) (copies-snoc n x)

reverse-copies : (n : ℕ) (x : Bool) → reverse (copies n x) ≡ copies n x
unfolding copies
reverse-copies zero x = refl
reverse-copies (suc n) x = reverse-cons x (copies n x) ∙ ap (λ (t : List Bool). t ++ (x ∷ [])) (reverse-copies n x) ∙ copies-snoc n x

trailing-copies : (x : Bool) (n : ℕ) → trailing x (copies n x) ≡ n
unfolding trailing
trailing-copies x n = ap (leading x) (reverse-copies n x) ∙ leading-copies x n

reverse-map : (f : Bool → Bool) (l : List Bool) → reverse (map f l) ≡ map f (reverse l)
reverse-map f [] = refl
reverse-map f (x ∷ l) =
    reverse-cons (f x) (map f l) ∙ ap (λ (t : List Bool). t ++ (f x ∷ [])) (reverse-map f l)
    ∙ sym (ap (map f) (reverse-cons x l) ∙ map_snoc (reverse l) x)
  where
    map_snoc : (l : List Bool) (x : Bool) → map f (l ++ (x ∷ [])) ≡ map f l ++ (f x ∷ [])
    map_snoc [] x = refl
    map_snoc (y ∷ l) x = ap (λ (t : List Bool). f y ∷ t) (map_snoc l x)

pub trailing-not : (l : List Bool) → trailing false (map not l) ≡ trailing true l
unfolding trailing
trailing-not l = ap (leading false) (reverse-map not l) ∙ leading-not (reverse l)

-- ---- of a number's bits

front-one : (r t : ℕ) (l : List Bool) → t ≡ leading false l → under r t ≡ leading false (is_one r ∷ l)
unfolding leading
front-one zero t l e = ap suc e
front-one (suc r) t l e = refl

pub front-bits : (d n : ℕ) → count_trailing_zeros d n ≡ leading false (bits d n)
unfolding count_trailing_zeros bits leading
front-bits zero n = refl
front-bits (suc d) n = front-one (n % 2) (count_trailing_zeros d (n / 2)) (bits d (n / 2)) (front-bits d (n / 2))

-- a number whose bits are all zero is 0
zero_bits : (d n : ℕ) → n < 2 ^ d → length (bits d n) ≤ trailing false (bits d n) → n ≡ 0
unfolding trailing
zero_bits d n b h =
    let r : reverse (bits d n) ≡ copies (length (reverse (bits d n))) false =
    all_alike false (reverse (bits d n)) (omega (arith, length-reverse (bits d n))) in
    bits-inj d n 0 b (pow_pos d)
    (sym (reverse-reverse (bits d n)) ∙ ap reverse (r ∙ ap (λ (k : ℕ). copies k false) (length-reverse (bits d n) ∙ length-bits d n))
    ∙ reverse-copies d false ∙ sym (bits-zero d))

end_none : (n : ℕ) → 0 ≡ trailing false (bits 0 n)
unfolding bits trailing leading
end_none n = refl

last_one : (r : ℕ) → 0 < r → trailing false (is_one r ∷ []) ≡ 0
unfolding trailing leading
last_one zero h = absurd (omega arith)
last_one (suc r) h = refl

bits-cons : (d n : ℕ) → bits (suc d) n ≡ (is_one (n % 2) ∷ []) ++ bits d (n / 2)
unfolding bits
bits-cons d n = refl

pub end-bits : (d n : ℕ) → n < 2 ^ d → count_leading_zeros d n ≡ trailing false (bits d n)
unfolding count_leading_zeros
end-bits zero n b = end_none n
end-bits (suc d) zero b = sym (ap (trailing false) (bits-zero (suc d)) ∙ trailing-copies false (suc d))
end-bits (suc d) (suc n) b =
    let low : suc n / 2 < 2 ^ d = half_lt d (suc n) b in
    let ih : count_leading_zeros d (suc n / 2) ≡ trailing false (bits d (suc n / 2)) = end-bits d (suc n / 2) low in
    ⊎_elim
    (λ (h : trailing false (bits d (suc n / 2)) < length (bits d (suc n / 2))).
    ih ∙ sym (ap (trailing false) (bits-cons d (suc n)) ∙ trailing-some false (is_one (suc n % 2) ∷ []) (bits d (suc n / 2)) h))
    (λ (h : length (bits d (suc n / 2)) ≤ trailing false (bits d (suc n / 2))).
    let z : suc n / 2 ≡ 0 = zero_bits d (suc n / 2) low h in
    let o : trailing false (is_one (suc n % 2) ∷ []) ≡ 0 = last_one (suc n % 2) (omega arith) in
    let e : trailing false (bits (suc d) (suc n)) ≡ length (bits d (suc n / 2)) + trailing false (is_one (suc n % 2) ∷ []) =
    ap (trailing false) (bits-cons d (suc n)) ∙ trailing-all false (is_one (suc n % 2) ∷ []) (bits d (suc n / 2)) h in
    omega (arith, trailing_le false (bits d (suc n / 2))))
    (cases_lt (trailing false (bits d (suc n / 2))) (length (bits d (suc n / 2))))

-- ---- of the first k flags of a word

take-least : (d k w : ℕ) → take (min k d) (bits d w) ≡ take k (bits d w)
take-least d k w = ⊎_elim
    (λ (h : k < d). let e : min k d ≡ k = omega arith in ap (λ (n : ℕ). take n (bits d w)) e)
    (λ (h : d ≤ k). take_all (min k d) (bits d w) (omega (arith, length-bits d w))
    ∙ sym (take_all k (bits d w) (omega (arith, length-bits d w))))
    (cases_lt k d)

-- zeros are shifted in below the first k flags, and the equal flags at the end are counted, at most n
pub trailing-shifted : (x : Bool) (d k n v r c : ℕ) → n ≡ min k d → (n ≡ 0 → ⊥) → r ≡ v * 2 ^ (d - n) % 2 ^ d → c ≡ trailing x (bits d r)
    → min c n ≡ trailing x (take k (bits d v))
trailing-shifted x d k n v r c e z p q =
    let w : d ≡ (d - n) + n = omega arith in
    let shape : bits d r ≡ copies (d - n) false ++ bits n v =
    ap (bits d) p ∙ bits-mod d (v * 2 ^ (d - n)) ∙ ap (λ (i : ℕ). bits i (v * 2 ^ (d - n))) w ∙ bits-shl (d - n) n v in
    ap₂ min (q ∙ ap (trailing x) shape) (sym (length-bits n v)) ∙ trailing-last x (copies (d - n) false) (bits n v)
    ∙ ap (trailing x) (sym (bits-take d n v (omega arith)) ∙ ap (λ (i : ℕ). take i (bits d v)) e ∙ take-least d k v)

pub take_none : (x : Bool) (k : ℕ) (l : List Bool) → min k 64 ≡ 0 → 0 ≡ trailing x (take k l)
unfolding trailing leading
take_none x zero l e = refl
take_none x (suc k) l e = absurd (omega arith)
