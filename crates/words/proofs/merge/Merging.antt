-- Two words shifted together: two loads that overlap, `merge_reversed`, and one word after the other.
use Rattle.std.proofs.Common.{◌≡◌, refl, sym, ap, ap₂, ◌∙◌, subst, Bool, true, false, ◌&&◌, ◌||◌, List, [], ◌∷◌, ◌++◌, append_assoc, ℕ}
use Rattle.std.proofs.Common.{zero, suc, ◌+◌, ◌-◌, ◌*◌, ◌/◌, ◌%◌, ◌^◌, ◌≤◌, ◌<◌, zero-le, add_comm, le_of_lt, sub-add_cancel, mod-eq_of_lt}
use Rattle.std.proofs.Common.{mod-lt, one-mul, zero-lt-suc, arith, length, take, drop, get_or, length-append, length-take, lit<, ltb}
use Rattle.std.proofs.Common.{take_at, drop_at, take_all, length-take-le, get_or-take, shl_exact, pow_pos, shr_lt, bit_or, lt-ltb, le-ltb}
use Rattle.std.proofs.Math.ListN.{get_or-append}
use Rattle.std.proofs.Math.Seq.{take-append_seam, take-append-add}
use mathlib.Core.List.{zip_with}
use Rattle.std.specs.Int.{from_bool}
use Rattle.std.proofs.Math.Bool.{or-false}
use Rattle.words.specs.Flags.{bits, copies, window}
use Rattle.words.specs.Merge.{merged}
use Rattle.words.proofs.flags.Bits.{length-bits, bits-add, bits-take, bits-zero, bits-ones, bits-mod, bits-shl, bits-or, bits-join}
use Rattle.words.proofs.flags.Windows.{length-copies, at_copies, copies-window, length-window, window-add, window-cut, window-drop}
use Rattle.words.proofs.flags.Windows.{window-past}
use Rattle.words.proofs.flags.Windows.{as-window, at-window, in_window}
use Rattle.words.proofs.word.Loads.{bits-more, bits-shr}

zip-append : (f : Bool → Bool → Bool) (a b c d : List Bool) → length a ≡ length c
    → zip_with f (a ++ b) (c ++ d) ≡ zip_with f a c ++ zip_with f b d
unfolding zip_with
zip-append f [] b [] d e = refl
zip-append f [] b (y ∷ c) d e = absurd (omega arith)
zip-append f (x ∷ a) b [] d e = absurd (omega arith)
zip-append f (x ∷ a) b (y ∷ c) d e = ap (λ (t : List Bool). f x y ∷ t) (zip-append f a b c d (omega arith))

or-part : (t x : Bool) → ((t && x) || x) ≡ x
or-part true true = refl
or-part true false = refl
or-part false x = refl

or-none : (l : List Bool) (k n : ℕ) → zip_with ◌||◌ (window l k n) (copies n false) ≡ window l k n
unfolding window zip_with copies
or-none l k zero = refl
or-none l k (suc n) = ap₂ (λ (x : Bool) (t : List Bool). x ∷ t) (or-false (get_or l k false)) (or-none l (suc k) n)

or_same : (l : List Bool) (k d o m : ℕ) → zip_with ◌||◌ (window (window l k d) o m) (window l (k + o) m) ≡ window l (k + o) m
unfolding window zip_with
or_same l k d o zero = refl
or_same l k d o (suc m) =
    let e : suc (k + o) ≡ k + suc o = omega arith in
    ap₂ (λ (x : Bool) (t : List Bool). x ∷ t)
    (ap (λ (x : Bool). x || get_or l (k + o) false) (at-window l k d o) ∙ or-part (ltb o d) (get_or l (k + o) false))
    (ap (λ (x : ℕ). zip_with ◌||◌ (window (window l k d) (suc o) m) (window l x m)) e ∙ or_same l k d (suc o) m
    ∙ ap (λ (x : ℕ). window l x m) (sym e))

bits_up : (d h y k : ℕ) (l : List Bool) → h ≤ d → bits d y ≡ window l k d
    → bits d (y * 2 ^ h % 2 ^ d) ≡ copies h false ++ window l k (d - h)
bits_up d h y k l p q =
    let e : d ≡ h + (d - h) = omega arith in
    let z : k + 0 ≡ k = omega arith in
    bits-mod d (y * 2 ^ h) ∙ ap (λ (n : ℕ). bits n (y * 2 ^ h)) e ∙ bits-shl h (d - h) y
    ∙ ap (λ (t : List Bool). copies h false ++ t)
    (sym (bits-take d (d - h) y (omega arith)) ∙ ap (take (d - h)) q ∙ window-cut l k d 0 (d - h) (omega arith)
    ∙ ap (λ (n : ℕ). window l n (d - h)) z)

-- x and y are d flags each of one list, y o flags further on, so that they agree where they overlap
pub overlap : (d o s k x y : ℕ) (l : List Bool) → s ≤ o → o ≤ d → x < 2 ^ d → bits d x ≡ window l k d → bits d y ≡ window l (k + o) d
    → bits d (bit_or (x / 2 ^ s) (y * 2 ^ (o - s) % 2 ^ d)) ≡ window l (k + s) d
overlap d o s k x y l hs ho hx px py =
    let e : d ≡ (o - s) + (d - (o - s)) = omega arith in
    let a : s + (o - s) ≡ o = omega arith in
    let b : k + o ≡ k + s + (o - s) = omega arith in
    bits-or d (x / 2 ^ s) (y * 2 ^ (o - s) % 2 ^ d)
    ∙ ap₂ (zip_with ◌||◌)
    (bits-shr d s x hx ∙ ap (λ (t : List Bool). window t s d) px ∙ ap (λ (n : ℕ). window (window l k d) s n) e
    ∙ window-add (window l k d) s (o - s) (d - (o - s))
    ∙ ap₂ (λ (t : List Bool) (n : ℕ). t ++ window (window l k d) n (d - (o - s))) (in_window l k d s (o - s) (omega arith)) a)
    (bits_up d (o - s) y (k + o) l (omega arith) py)
    ∙ zip-append ◌||◌ (window l (k + s) (o - s)) (window (window l k d) o (d - (o - s))) (copies (o - s) false)
    (window l (k + o) (d - (o - s))) (length-window l (k + s) (o - s) ∙ sym (length-copies (o - s) false))
    ∙ ap₂ (λ (t u : List Bool). t ++ u) (or-none l (k + s) (o - s))
    (or_same l k d o (d - (o - s)) ∙ ap (λ (n : ℕ). window l n (d - (o - s))) b)
    ∙ sym (ap (window l (k + s)) e ∙ window-add l (k + s) (o - s) (d - (o - s)))

-- two loads a byte apart
pub shifted : (l : List Bool) (at s x y : ℕ) → s ≤ 8 → x < 2 ^ 64 → bits 64 x ≡ window l (8 * at) 64
    → bits 64 y ≡ window l (8 * (at + 1)) 64
    → bits 64 (bit_or (x / 2 ^ s) (y * 2 ^ (8 - s) % 2 ^ 64)) ≡ window l (8 * at + s) 64
shifted l at s x y h b p q =
    let e : 8 * (at + 1) ≡ 8 * at + 8 = omega arith in
    overlap 64 8 s (8 * at) x y l h (omega arith) b p (q ∙ ap (λ (n : ℕ). window l n 64) e)

-- ---- the j high bits of one word and the o low bits of the next

merge-at : (j o c n : ℕ) → c < 2 ^ (j + o)
    → bits (j + o) (bit_or (c / 2 ^ o) (n * 2 ^ j % 2 ^ (j + o))) ≡ take (j + o) (drop o (bits (j + o) c ++ bits (j + o) n))
merge-at j o c n h =
    let cut : (x : ℕ) → bits (j + o) x ≡ bits o x ++ bits j (x / 2 ^ o) = λ x. ap (λ (d : ℕ). bits d x) (add_comm j o) ∙ bits-add o j x in
    let long : length (bits j (c / 2 ^ o) ++ bits o n) ≡ j + o =
    length-append (bits j (c / 2 ^ o)) (bits o n) ∙ ap₂ (λ (x y : ℕ). x + y) (length-bits j (c / 2 ^ o)) (length-bits o n) in
    bits-join j o (c / 2 ^ o) n (shr_lt j o h)
    ∙ sym (rw (cut c, cut n, append_assoc, drop_at (bits o c) _ o (length-bits o c), ← append_assoc)
    (take_at (bits j (c / 2 ^ o) ++ bits o n) (bits j (n / 2 ^ o)) (j + o) long))

pub merge-bits : (d o c n : ℕ) → o < d → c < 2 ^ d → bits d (bit_or (c / 2 ^ o) (n * 2 ^ (d - o) % 2 ^ d)) ≡ merged (bits d c) (bits d n) o
unfolding merged
merge-bits d o c n h k =
    rw (length-bits d c, lt-ltb o d h)
    (subst (λ (w : ℕ). c < 2 ^ w → bits w (bit_or (c / 2 ^ o) (n * 2 ^ (d - o) % 2 ^ w)) ≡ take w (drop o (bits w c ++ bits w n)))
    (sub-add_cancel (le_of_lt h)) (merge-at (d - o) o c n) k)

pub merge_none : (a b : List Bool) → a ≡ merged a b 0
unfolding merged
merge_none [] b = refl
merge_none (x ∷ a) b = rw (lt-ltb 0 (suc (length a)) (zero-lt-suc (length a))) (sym (take-append_seam (x ∷ a) b))

pub merge-past : (d o c : ℕ) (b : List Bool) → d ≤ o → bits d c ≡ merged (bits d c) b o
unfolding merged
merge-past d o c b h = rw (length-bits d c, le-ltb o d h)

-- two neighbouring words of a list, merged, are the word that begins at the offset
pub merged-window : (l : List Bool) (k d o : ℕ) → o < d → merged (window l k d) (window l (k + d) d) o ≡ window l (k + o) d
unfolding merged
merged-window l k d o h =
    rw (length-window l k d, lt-ltb o d h, ← window-add)
    (window-cut l k (d + d) o d (omega arith))

-- ---- the k low flags of one word, then those of another

pub front-flags : (d k : ℕ) (a b : List Bool) → length a ≡ k → k ≤ d → length b ≡ d → a ++ take (d - k) b ≡ window (a ++ b) 0 d
front-flags d k a b ea h eb =
    let e : d ≡ length a + (d - k) = omega arith in
    let n : length (a ++ take (d - k) b) ≡ d =
    length-append a (take (d - k) b) ∙ ap (λ (x : ℕ). length a + x) (length-take-le (d - k) b (omega arith)) ∙ sym e in
    let f : take d (a ++ b) ≡ a ++ take (d - k) b = ap (λ (x : ℕ). take x (a ++ b)) e ∙ take-append-add a b (d - k) in
    as-window (a ++ take (d - k) b) (a ++ b) 0 d n (λ j q.
    let z : j ≡ 0 + j = omega arith in
    ap (λ (l : List Bool). get_or l j false) (sym f) ∙ get_or-take d (a ++ b) j false q ∙ ap (λ (x : ℕ). get_or (a ++ b) x false) z)

pub concat-some : (d k a b : ℕ) → k < d
    → bits d (bit_or (a % (1 * 2 ^ k % 2 ^ d)) (b * 2 ^ k % 2 ^ d)) ≡ window (take k (bits d a) ++ bits d b) 0 d
concat-some d k a b h =
    let e : k + (d - k) ≡ d = omega arith in
    let low : 1 * 2 ^ k % 2 ^ d ≡ 2 ^ k = shl_exact 1 k d (lit< tt) (omega arith) ∙ one-mul (2 ^ k) in
    ap (λ (x : ℕ). bits d (bit_or (a % x) (b * 2 ^ k % 2 ^ d))) low
    ∙ ap (λ (x : ℕ). bits x (bit_or (a % 2 ^ k) (b * 2 ^ k % 2 ^ x))) (sym e)
    ∙ bits-join k (d - k) (a % 2 ^ k) b (mod-lt a (pow_pos k))
    ∙ ap₂ (λ (x y : List Bool). x ++ y) (bits-mod k a ∙ sym (bits-take d k a (le_of_lt h))) (sym (bits-take d (d - k) b (omega arith)))
    ∙ front-flags d k (take k (bits d a)) (bits d b) (length-take-le k (bits d a) (omega (arith, length-bits d a))) (le_of_lt h)
    (length-bits d b)

pub concat-all : (d k a : ℕ) (b : List Bool) → d ≤ k → bits d a ≡ window (take k (bits d a) ++ b) 0 d
concat-all d k a b h = as-window (bits d a) (take k (bits d a) ++ b) 0 d (length-bits d a) (λ j q.
    let z : j ≡ 0 + j = omega arith in
    let n : length (bits d a) ≡ d = length-bits d a in
    ap (λ (l : List Bool). get_or l j false) (sym (take_all k (bits d a) (omega arith)))
    ∙ sym (get_or-append (take k (bits d a)) b false j (omega (arith, length-take k (bits d a))))
    ∙ ap (λ (x : ℕ). get_or (take k (bits d a) ++ b) x false) z)

-- ---- a word shifted left, and copies of a flag as a word

pub shl-some : (d k w : ℕ) → k < d → bits d (w * 2 ^ k % 2 ^ d) ≡ window (copies k false ++ bits d w) 0 d
shl-some d k w h =
    let e : d ≡ k + (d - k) = omega arith in
    bits-mod d (w * 2 ^ k) ∙ ap (λ (n : ℕ). bits n (w * 2 ^ k)) e ∙ bits-shl k (d - k) w
    ∙ ap (λ (t : List Bool). copies k false ++ t) (sym (bits-take d (d - k) w (omega arith)))
    ∙ front-flags d k (copies k false) (bits d w) (length-copies k false) (le_of_lt h) (length-bits d w)

pub shl-past : (d k : ℕ) (b : List Bool) → d ≤ k → bits d 0 ≡ window (copies k false ++ b) 0 d
shl-past d k b h = bits-zero d ∙ as-window (copies d false) (copies k false ++ b) 0 d (length-copies d false) (λ j q.
    at_copies d false j q
    ∙ sym (get_or-append (copies k false) b false (0 + j) (omega (arith, length-copies k false)) ∙ at_copies k false (0 + j) (omega arith)))

one_shifted : (d n : ℕ) → n < d → 1 * 2 ^ n % 2 ^ d ≡ 2 ^ n
one_shifted d n h = shl_exact 1 n d (lit< tt) (omega arith) ∙ one-mul (2 ^ n)

pub copies-some : (d n : ℕ) (x : Bool) → n < d → bits d (from_bool x * 2 ^ n % 2 ^ d - from_bool x) ≡ window (copies n x) 0 d
copies-some d n false h =
    let z : 0 * 2 ^ n ≡ 0 = omega arith in
    let e : 0 * 2 ^ n % 2 ^ d - 0 ≡ 0 = ap (λ (x : ℕ). x % 2 ^ d - 0) z ∙ ap (λ (x : ℕ). x - 0) (mod-eq_of_lt (pow_pos d)) in
    ap (bits d) e ∙ bits-more n d 0 (pow_pos n) ∙ ap (λ (l : List Bool). window l 0 d) (bits-zero n)
copies-some d n true h =
    let p : 0 < 2 ^ n = pow_pos n in
    ap (λ (y : ℕ). bits d (y - 1)) (one_shifted d n h) ∙ bits-more n d (2 ^ n - 1) (omega arith)
    ∙ ap (λ (l : List Bool). window l 0 d) (bits-ones n)

pub copies-past : (d n r : ℕ) (x : Bool) → d ≤ n → bits d r ≡ copies d x → bits d r ≡ window (copies n x) 0 d
copies-past d n r x h e = e ∙ copies-window n x 0 d (omega arith)

-- ---- one word after another by `or`: no flag of the first at its length or above, and the second shifted left

or_left : (t : List Bool) (k n : ℕ) → zip_with ◌||◌ (copies n false) (window t k n) ≡ window t k n
unfolding window zip_with copies
or_left t k zero = refl
or_left t k (suc n) = ap (λ (l : List Bool). get_or t k false ∷ l) (or_left t (suc k) n)

or_row : (p t : List Bool) (n : ℕ) → zip_with ◌||◌ (window p 0 n) (window (copies (length p) false ++ t) 0 n) ≡ window (p ++ t) 0 n
unfolding window zip_with copies
or_row p t zero = refl
or_row [] t (suc n) = ap (λ (l : List Bool). zip_with ◌||◌ l (window t 0 (suc n))) (window-past [] 0 (suc n) zero-le) ∙ or_left t 0 (suc n)
or_row (x ∷ p) t (suc n) =
    ap₂ (λ (y : Bool) (l : List Bool). y ∷ l) (or-false x)
    (ap₂ (zip_with ◌||◌) (sym (window-drop (x ∷ p) 1 0 n)) (sym (window-drop (false ∷ (copies (length p) false ++ t)) 1 0 n))
    ∙ or_row p t n ∙ window-drop (x ∷ (p ++ t)) 1 0 n)

pub or-concat : (d k a b u r : ℕ) → k ≤ d → bits d a ≡ window (take k (bits d a)) 0 d → bits d u ≡ window (copies k false ++ bits d b) 0 d
    → bits d r ≡ zip_with ◌||◌ (bits d a) (bits d u) → bits d r ≡ window (take k (bits d a) ++ bits d b) 0 d
or-concat d k a b u r h low moved joined =
    let n : k ≡ length (take k (bits d a)) = sym (length-take-le k (bits d a) (omega (arith, length-bits d a))) in
    joined ∙ ap₂ (zip_with ◌||◌) low (moved ∙ ap (λ (x : ℕ). window (copies x false ++ bits d b) 0 d) n)
    ∙ or_row (take k (bits d a)) (bits d b) d
