-- The bits of a number as a list, at any width: cut in two, shifted, combined, and back to the number.
use Rattle.std.proofs.Common.{◌≡◌, refl, sym, ap, ap₂, ◌∙◌, Bool, true, false, not, ◌&&◌, ◌||◌, List, [], ◌∷◌, ◌++◌, map, ℕ, zero, suc}
use Rattle.std.proofs.Common.{◌+◌, ◌-◌, ◌*◌, ◌/◌, ◌%◌, ◌^◌, ◌≤◌, ◌<◌, min, max, suc-add, zero-add, add-zero, pow-suc, mod-lt, zero-lt-suc}
use Rattle.std.proofs.Common.{div-add-mod', div-one, mul_assoc, one-add, add-one, arith, pow_pos, shr-shr, shr_lt, bit_and, bit_or}
use Rattle.std.proofs.Common.{bit_xor, eqb, length, take, take_at}
use Rattle.std.proofs.Math.Arith.{digits_div, digits_mod, digits_lt, lt-one}
use Rattle.std.proofs.Math.Bool.{xor}
use Rattle.std.proofs.Math.Nat.{zero-min, min-zero, zero-max, max-zero, suc-min-suc, suc-max-suc}
use Rattle.std.proofs.Math.Pow.{shl-shr, high, split}
use Rattle.std.specs.Int.Bits.{block_half, block_odd, differ, and_step, or_step, xor_step, or_shifted_r}
use mathlib.Core.List.{zip_with}
use Rattle.words.specs.Flags.{is_one, digit, bits, word_of, copies}

pub length-bits : (d n : ℕ) → length (bits d n) ≡ d
unfolding bits
length-bits zero n = refl
length-bits (suc d) n = ap suc (length-bits d (n / 2))

pub halves : (n j : ℕ) → n / 2 / 2 ^ j ≡ n / 2 ^ suc j
halves n j = shr-shr n 1 j ∙ ap (λ (x : ℕ). n / 2 ^ x) (one-add j)

-- the low j bits, then the next k
pub bits-add : (j k n : ℕ) → bits (j + k) n ≡ bits j n ++ bits k (n / 2 ^ j)
unfolding bits
bits-add zero k n = rw zero-add (ap (bits k) (sym (div-one n)))
bits-add (suc j) k n =
    rw suc-add (ap (λ (l : List Bool). is_one (n % 2) ∷ l) (bits-add j k (n / 2) ∙ ap (λ (x : ℕ). bits j (n / 2) ++ bits k x) (halves n j)))

-- the k low bits are the first k of the d low bits
pub bits-take : (d k w : ℕ) → k ≤ d → take k (bits d w) ≡ bits k w
bits-take d k w h =
    let e : d ≡ k + (d - k) = omega arith in
    ap (λ (x : ℕ). take k (bits x w)) e ∙ ap (take k) (bits-add k (d - k) w)
    ∙ take_at (bits k w) (bits (d - k) (w / 2 ^ k)) k (length-bits k w)

pub bits-zero : (d : ℕ) → bits d 0 ≡ copies d false
unfolding bits copies
bits-zero zero = refl
bits-zero (suc d) = ap (λ (l : List Bool). false ∷ l) (bits-zero d)

-- what is above the d low bits does not count
pub bits-low : (d a r : ℕ) → bits d (a * 2 ^ d + r) ≡ bits d r
unfolding bits
bits-low zero a r = refl
bits-low (suc d) a r =
    ap₂ (λ (x : ℕ) (l : List Bool). is_one x ∷ l) (block_odd a d r) (ap (bits d) (block_half a d r) ∙ bits-low d a (r / 2))

pub bits-mod : (d n : ℕ) → bits d (n % 2 ^ d) ≡ bits d n
bits-mod d n = sym (bits-low d (n / 2 ^ d) (n % 2 ^ d)) ∙ ap (bits d) (split n d)

-- a shift to the left puts zeros in front
pub bits-shl : (k d a : ℕ) → bits (k + d) (a * 2 ^ k) ≡ copies k false ++ bits d a
bits-shl k d a =
    bits-add k d (a * 2 ^ k)
    ∙ ap₂ (λ (x y : List Bool). x ++ y) (ap (bits k) (sym (add-zero (a * 2 ^ k))) ∙ bits-low k a 0 ∙ bits-zero k)
    (ap (bits d) (shl-shr a k))

-- ---- one law for the operations on two numbers that work digit by digit
module _ (op f : ℕ → ℕ → ℕ) (g : Bool → Bool → Bool) (step : (a b : ℕ) → op a b ≡ op (a / 2) (b / 2) * 2 + f (a % 2) (b % 2))
    (on : (x y : ℕ) → x < 2 → y < 2 → (f x y < 2) × (is_one (f x y) ≡ g (is_one x) (is_one y))) where
  bits-op : (d a b : ℕ) → bits d (op a b) ≡ zip_with g (bits d a) (bits d b)
  unfolding bits zip_with
  bits-op zero a b = refl
  bits-op (suc d) a b =
      let h : (f (a % 2) (b % 2) < 2) × (is_one (f (a % 2) (b % 2)) ≡ g (is_one (a % 2)) (is_one (b % 2))) =
      on (a % 2) (b % 2) (mod-lt a (zero-lt-suc 1)) (mod-lt b (zero-lt-suc 1)) in
      ap₂ (λ (x : Bool) (l : List Bool). x ∷ l)
      (ap (λ (x : ℕ). is_one (x % 2)) (step a b) ∙ ap is_one (digits_mod (op (a / 2) (b / 2)) h.0) ∙ h.1)
      (ap (λ (x : ℕ). bits d (x / 2)) (step a b) ∙ ap (bits d) (digits_div (op (a / 2) (b / 2)) h.0) ∙ bits-op d (a / 2) (b / 2))

on-min : (x y : ℕ) → x < 2 → y < 2 → (min x y < 2) × (is_one (min x y) ≡ (is_one x && is_one y))
on-min zero y h k = (omega arith, ap is_one (zero-min y))
on-min (suc x) zero h k = (omega arith, ap is_one (min-zero (suc x)))
on-min (suc x) (suc y) h k = (omega arith, ap is_one (suc-min-suc x y))

on-max : (x y : ℕ) → x < 2 → y < 2 → (max x y < 2) × (is_one (max x y) ≡ (is_one x || is_one y))
on-max zero y h k = (omega arith, ap is_one (zero-max y))
on-max (suc x) zero h k = (omega arith, ap is_one (max-zero (suc x)))
on-max (suc x) (suc y) h k = (omega arith, ap is_one (suc-max-suc x y))

on-differ : (x y : ℕ) → x < 2 → y < 2 → (differ x y < 2) × (is_one (differ x y) ≡ xor (is_one x) (is_one y))
unfolding xor
on-differ zero zero h k = (h, refl)
on-differ zero (suc y) h k = (k, refl)
on-differ (suc x) zero h k = (h, refl)
on-differ (suc zero) (suc zero) h k = (zero-lt-suc 1, refl)
on-differ (suc zero) (suc (suc y)) h k = absurd (omega arith)
on-differ (suc (suc x)) (suc y) h k = absurd (omega arith)

pub bits-and : (d a b : ℕ) → bits d (bit_and a b) ≡ zip_with ◌&&◌ (bits d a) (bits d b)
bits-and = bits-op bit_and min ◌&&◌ and_step on-min

pub bits-or : (d a b : ℕ) → bits d (bit_or a b) ≡ zip_with ◌||◌ (bits d a) (bits d b)
bits-or = bits-op bit_or max ◌||◌ or_step on-max

pub bits-xor : (d a b : ℕ) → bits d (bit_xor a b) ≡ zip_with xor (bits d a) (bits d b)
bits-xor = bits-op bit_xor differ xor xor_step on-differ

-- ---- from a list to the number and back

pub digit-is_one : (x : ℕ) → x < 2 → digit (is_one x) ≡ x
digit-is_one zero h = refl
digit-is_one (suc zero) h = refl
digit-is_one (suc (suc x)) h = absurd (omega arith)

pub eqb-is_one : (x : ℕ) → x < 2 → eqb x 1 ≡ is_one x
eqb-is_one zero h = refl
eqb-is_one (suc zero) h = refl
eqb-is_one (suc (suc x)) h = absurd (omega arith)

pub is_one-digit : (b : Bool) → is_one (digit b) ≡ b
is_one-digit false = refl
is_one-digit true = refl

pub digit_lt : (b : Bool) → digit b < 2
digit_lt false = zero-lt-suc 1
digit_lt true = omega arith

pub half_lt : (d n : ℕ) → n < 2 ^ suc d → n / 2 < 2 ^ d
half_lt d n h = shr_lt d 1 (rw add-one h)

pub word_of_lt : (l : List Bool) → word_of l < 2 ^ length l
unfolding word_of
word_of_lt [] = zero-lt-suc 0
word_of_lt (b ∷ l) = rw pow-suc (digits_lt (word_of_lt l) (digit_lt b))

pub word_of_bits : (d n : ℕ) → n < 2 ^ d → word_of (bits d n) ≡ n
unfolding word_of bits
word_of_bits zero n h = sym (lt-one h)
word_of_bits (suc d) n h =
    ap₂ (λ (x y : ℕ). x * 2 + y) (word_of_bits d (n / 2) (half_lt d n h)) (digit-is_one (n % 2) (mod-lt n (zero-lt-suc 1)))
    ∙ div-add-mod' n 2

-- two words with the same flags are equal
pub bits-inj : (d a b : ℕ) → a < 2 ^ d → b < 2 ^ d → bits d a ≡ bits d b → a ≡ b
bits-inj d a b h k e = sym (word_of_bits d a h) ∙ ap word_of e ∙ word_of_bits d b k

pub word_of_append : (l m : List Bool) → word_of (l ++ m) ≡ word_of m * 2 ^ length l + word_of l
unfolding word_of
word_of_append [] m = omega arith
word_of_append (b ∷ l) m =
    let e : word_of m * 2 ^ suc (length l) ≡ word_of m * 2 ^ length l * 2 =
    ap (λ (x : ℕ). word_of m * x) (pow-suc 2 (length l)) ∙ sym (mul_assoc (word_of m) (2 ^ length l) 2) in
    let ih : word_of (l ++ m) ≡ word_of m * 2 ^ length l + word_of l = word_of_append l m in
    omega arith

-- the number of one list, and of another shifted to follow it, joined by `or`
pub or-append : (l m : List Bool) → bit_or (word_of l) (word_of m * 2 ^ length l) ≡ word_of (l ++ m)
or-append l m = or_shifted_r (word_of m) (length l) (word_of l) (word_of_lt l) ∙ sym (word_of_append l m)

is_one-flip : (x : ℕ) → x < 2 → is_one (1 - x) ≡ not (is_one x)
is_one-flip zero h = refl
is_one-flip (suc zero) h = refl
is_one-flip (suc (suc x)) h = absurd (omega arith)

pub bits-not : (d a : ℕ) → a < 2 ^ d → bits d (2 ^ d - 1 - a) ≡ map not (bits d a)
unfolding bits
bits-not zero a h = refl
bits-not (suc d) a h =
    let e : 2 ^ suc d ≡ 2 ^ d * 2 = pow-suc 2 d in
    let low : (2 ^ suc d - 1 - a) % 2 ≡ 1 - a % 2 = omega arith in
    let rest : (2 ^ suc d - 1 - a) / 2 ≡ 2 ^ d - 1 - a / 2 = omega arith in
    ap₂ (λ (x : Bool) (l : List Bool). x ∷ l)
    (ap is_one low ∙ is_one-flip (a % 2) (mod-lt a (zero-lt-suc 1)))
    (ap (bits d) rest ∙ bits-not d (a / 2) (half_lt d a h))

map-copies : (f : Bool → Bool) (n : ℕ) (x : Bool) → map f (copies n x) ≡ copies n (f x)
unfolding copies
map-copies f zero x = refl
map-copies f (suc n) x = ap (λ (l : List Bool). f x ∷ l) (map-copies f n x)

-- all bits set
pub bits-ones : (d : ℕ) → bits d (2 ^ d - 1) ≡ copies d true
bits-ones d =
    let z : 2 ^ d - 1 - 0 ≡ 2 ^ d - 1 = omega arith in
    sym (ap (bits d) z) ∙ bits-not d 0 (pow_pos d) ∙ ap (map not) (bits-zero d) ∙ map-copies not d false

-- two runs of bits side by side: `lo | hi << j`
pub bits-join : (j k lo hi : ℕ) → lo < 2 ^ j → bits (j + k) (bit_or lo (hi * 2 ^ j % 2 ^ (j + k))) ≡ bits j lo ++ bits k hi
bits-join j k lo hi h =
    bits-or (j + k) lo (hi * 2 ^ j % 2 ^ (j + k))
    ∙ ap (zip_with ◌||◌ (bits (j + k) lo)) (bits-mod (j + k) (hi * 2 ^ j))
    ∙ sym (bits-or (j + k) lo (hi * 2 ^ j))
    ∙ ap (bits (j + k)) (or_shifted_r hi j lo h)
    ∙ bits-add j k (hi * 2 ^ j + lo)
    ∙ ap₂ (λ (x y : List Bool). x ++ y) (bits-low j hi lo) (ap (bits k) (high hi j h))
