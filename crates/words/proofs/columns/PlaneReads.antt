-- Numbers of columns read off bit planes: digit by digit, each selected by the mask of its flag.
use Rattle.std.proofs.Common.{◌≡◌, refl, sym, ap, ◌∙◌, Bool, true, false, cond, List}
use Rattle.std.proofs.Common.{ℕ, zero, suc, ◌+◌, ◌-◌, ◌*◌, ◌/◌, ◌%◌, ◌^◌, ◌≤◌, ◌<◌, pow-suc, mod-lt, zero-lt-suc}
use Rattle.std.proofs.Common.{add-one, arith, bit_and, eqb, pow_mono, shl_exact, shr-shr, eq-eqb, ne_eqb}
use Rattle.std.proofs.Common.{length, drop, get_or}
use Rattle.std.proofs.Common.{drop_of_length-le, drop-cons}
use Rattle.std.proofs.Math.Pow.{field, high_ones, mod-mod-pow}
use Rattle.std.specs.Int.Bits.{and_high}
use Rattle.words.specs.Flags.{digit}
use Rattle.words.specs.Planes.{planes_at}
use Rattle.words.proofs.flags.Bits.{digit-is_one, digit_lt}
use Rattle.words.proofs.columns.ColumnLaws.{flag}
use Rattle.words.proofs.theorems.Plain.{at_bits}
use Rattle.words.proofs.planes.PlaneLaws.{doubled}

-- ---- a column's number

pub planes_down : (ps : List ℕ) (i c : ℕ) → i < length ps
    → planes_at (drop i ps) c ≡ digit (flag (get_or ps i 0) c) + 2 * planes_at (drop (suc i) ps) c
unfolding planes_at
planes_down ps i c h = ap (λ (t : List ℕ). planes_at t c) (drop-cons ps i 0 h)

-- the digit that a shift leaves
pub digit_shift : (w c : ℕ) → c < 64 → w / 2 ^ c % 2 ≡ digit (flag w c)
digit_shift w c p = sym (digit-is_one (w / 2 ^ c % 2) (mod-lt (w / 2 ^ c) (zero-lt-suc 1))) ∙ ap digit (sym (at_bits 64 w c p))

-- one more digit, times its power of two
pub digits_more : (ps : List ℕ) (c i s d : ℕ) → i < length ps → s + 2 ^ i * planes_at (drop i ps) c ≡ planes_at ps c
    → d ≡ digit (flag (get_or ps i 0) c)
    → s + d * 2 ^ i + 2 ^ (i + 1) * planes_at (drop (i + 1) ps) c ≡ planes_at ps c
digits_more ps c i s d h e f =
    let x : ℕ = planes_at (drop (suc i) ps) c in
    let m : 2 ^ (i + 1) * planes_at (drop (i + 1) ps) c ≡ 2 ^ suc i * x =
    ap (λ (n : ℕ). 2 ^ n * planes_at (drop n ps) c) (add-one i) in
    let g : 2 ^ suc i * x ≡ 2 * (2 ^ i * x) = doubled i x in
    let k : 2 ^ i * planes_at (drop i ps) c ≡ 2 ^ i * (digit (flag (get_or ps i 0) c) + 2 * x) =
    ap (λ (n : ℕ). 2 ^ i * n) (planes_down ps i c h) in
    let t : d * 2 ^ i ≡ digit (flag (get_or ps i 0) c) * 2 ^ i = ap (λ (n : ℕ). n * 2 ^ i) f in
    omega arith

-- ---- a column selected by a mask

-- flag c of the 32 flags that begin at flag s
half-bit : (p s c : ℕ) → c < 32 → p / 2 ^ s % 2 ^ 32 / 2 ^ c % 2 ≡ p / 2 ^ (s + c) % 2
half-bit p s c h =
    let q : ℕ = p / 2 ^ s in
    let a : 32 ≡ (32 - c) + c = omega arith in
    let b : 32 - c ≡ (31 - c) + 1 = omega arith in
    ap (λ (n : ℕ). q % 2 ^ n / 2 ^ c % 2) a ∙ ap (λ (x : ℕ). x % 2) (field q (32 - c) c)
    ∙ ap (λ (n : ℕ). q / 2 ^ c % 2 ^ n % 2) b ∙ mod-mod-pow (q / 2 ^ c) (31 - c) 1 ∙ ap (λ (x : ℕ). x % 2) (shr-shr p s c)

-- the bit that a mask of one flag leaves
masked : (h c : ℕ) → bit_and h (2 ^ c) ≡ h / 2 ^ c % 2 * 2 ^ c
masked h c =
    let e : (2 ^ 1 - 1) * 2 ^ c ≡ 2 ^ c = omega arith in
    ap (bit_and h) (sym (high_ones 1 c ∙ e)) ∙ and_high h 1 c

by_bit : (x m : ℕ) → x < 2 → 0 < m → cond (eqb (x * m) 0) 0 1 ≡ x
by_bit zero m h p = let e : zero * m ≡ 0 = omega arith in ap (λ (t : Bool). cond t 0 1) (eq-eqb (zero * m) 0 e)
by_bit (suc zero) m h p =
    let e : suc zero * m ≡ m = omega arith in
    ap (λ (t : Bool). cond t 0 1) (ne_eqb (suc zero * m) 0 (λ (f : suc zero * m ≡ 0). omega arith))
by_bit (suc (suc x)) m h p = absurd (omega arith)

pub mask-digit : (p s c m h r : ℕ) → s ≤ 32 → c < 32 → m ≡ 2 ^ c → h ≡ p / 2 ^ s % 2 ^ 32 → r ≡ cond (eqb (bit_and h m) 0) 0 1
    → r ≡ digit (flag p (s + c))
mask-digit p s c m h r a b e f g =
    let low : 0 ≤ c = omega arith in
    let some : 2 ^ 0 ≤ 2 ^ c = pow_mono low in
    let bit : bit_and h m ≡ h / 2 ^ c % 2 * 2 ^ c = ap (bit_and h) e ∙ masked h c in
    g ∙ ap (λ (x : ℕ). cond (eqb x 0) 0 1) bit ∙ by_bit (h / 2 ^ c % 2) (2 ^ c) (mod-lt (h / 2 ^ c) (zero-lt-suc 1)) (omega arith)
    ∙ ap (λ (x : ℕ). x / 2 ^ c % 2) f ∙ half-bit p s c b ∙ digit_shift p (s + c) (omega arith)

-- one more digit of the sum is written
pub digit_more : (ps : List ℕ) (c i s d t : ℕ) → length ps ≤ 9 → i < length ps → s + 2 ^ i * planes_at (drop i ps) c ≡ planes_at ps c
    → d ≡ digit (flag (get_or ps i 0) c) → t ≡ d * 2 ^ i % 2 ^ 32 → s + t + 2 ^ (i + 1) * planes_at (drop (i + 1) ps) c ≡ planes_at ps c
digit_more ps c i s d t long h e f g =
    let one : d < 2 ^ 1 = omega (arith, f, digit_lt (flag (get_or ps i 0) c)) in
    let all : t ≡ d * 2 ^ i = g ∙ shl_exact 1 i 32 one (omega arith) in
    ap (λ (n : ℕ). s + n + 2 ^ (i + 1) * planes_at (drop (i + 1) ps) c) all ∙ digits_more ps c i s d h e f

-- what a test returns is a digit
pub digit_few : (b : Bool) (d : ℕ) → d ≡ cond b 0 1 → d < 2
digit_few false d e = omega arith
digit_few true d e = omega arith

-- with one more digit, a sum of i digits is below the next power of two, and one of nine digits below 512
pub sum_more : (i s d t : ℕ) (b : Bool) → s < 2 ^ i → i < 9 → d ≡ cond b 0 1 → t ≡ d * 2 ^ i % 2 ^ 32
    → (s + t < 2 ^ (i + 1)) × (s + t < 512)
sum_more i s d t b h n e g =
    let k : d < 2 = digit_few b d e in
    let all : t ≡ d * 2 ^ i = g ∙ shl_exact 1 i 32 k (omega arith) in
    let next : 2 ^ (i + 1) ≡ 2 ^ i * 2 = ap (λ (n : ℕ). 2 ^ n) (add-one i) ∙ pow-suc 2 i in
    let low : i + 1 ≤ 9 = omega arith in
    let most : 2 ^ (i + 1) ≤ 2 ^ 9 = pow_mono low in
    let part : d * 2 ^ i ≤ 2 ^ i = one_of d (2 ^ i) k in
    let sum : s + t < 2 ^ (i + 1) = omega arith in
    (sum, omega arith)
  where
    one_of : (d m : ℕ) → d < 2 → d * m ≤ m
    one_of zero m h = omega arith
    one_of (suc zero) m h = omega arith
    one_of (suc (suc d)) m h = absurd (omega arith)

pub digits_none : (ps : List ℕ) (c : ℕ) → 0 + 2 ^ 0 * planes_at (drop 0 ps) c ≡ planes_at ps c
digits_none ps c = omega arith

pub digits_all : (ps : List ℕ) (c i s : ℕ) → length ps ≤ i → s + 2 ^ i * planes_at (drop i ps) c ≡ planes_at ps c → s ≡ planes_at ps c
unfolding planes_at
digits_all ps c i s h e =
    let z : 2 ^ i * planes_at (drop i ps) c ≡ 2 ^ i * 0 = ap (λ (l : List ℕ). 2 ^ i * planes_at l c) (drop_of_length-le ps h) in
    omega arith

pub mask_value : (c : ℕ) → c < 32 → 1 * 2 ^ c % 2 ^ 32 ≡ 2 ^ c
mask_value c h =
    let low : 1 < 2 ^ 1 = omega arith in
    let e : 1 * 2 ^ c ≡ 2 ^ c = omega arith in
    shl_exact 1 c 32 low (omega arith) ∙ e

-- a plane's digit of column s + c, by the mask of flag c, is added to the sum
pub column_more : (ps : List ℕ) (s c i sum m h r : ℕ) → length ps ≤ 9 → i < length ps → s ≤ 32 → c < 32 → m ≡ 2 ^ c
    → sum + 2 ^ i * planes_at (drop i ps) (s + c) ≡ planes_at ps (s + c) → h ≡ get_or ps i 0 / 2 ^ s % 2 ^ 32
    → r ≡ cond (eqb (bit_and h m) 0) 0 1
    → sum + r * 2 ^ i % 2 ^ 32 + 2 ^ (i + 1) * planes_at (drop (i + 1) ps) (s + c) ≡ planes_at ps (s + c)
column_more ps s c i sum m h r long p a b e inv f g =
    digit_more ps (s + c) i sum r (r * 2 ^ i % 2 ^ 32) long p inv (mask-digit (get_or ps i 0) s c m h r a b e f g) refl
