-- The laws of `window` and `over`: none has a condition on the length of the list that is read.
use Rattle.std.proofs.Common.{◌≡◌, refl, sym, ap, ap₂, ◌∙◌, Bool, false, ◌&&◌, List, [], ◌∷◌, ◌++◌, ⊎_elim, ℕ, zero, suc, ◌+◌, ◌-◌, ◌^◌}
use Rattle.std.proofs.Common.{◌≤◌, ◌<◌, zero-le, add-zero, zero-add, add-suc, suc-add, lt_of_lt_of_le, arith, length, take, drop, get_or}
use Rattle.std.proofs.Common.{set, length-take, ltb, get_or-drop, get_or-take, take_at, drop_at, pow_mono, lt-ltb, le-ltb}
use Rattle.std.proofs.Math.Arith.{digits_div, digits_mod}
use Rattle.std.proofs.Math.Dec.{leb-suc-suc}
use Rattle.std.proofs.Math.ListN.{get_or-eq_default}
use Rattle.std.proofs.lemmas.Bool.{cases_lt}
use Rattle.words.specs.Flags.{is_one, bits, word_of, copies, window, over, over_at}
use Rattle.words.proofs.flags.Bits.{bits-zero, digit_lt, is_one-digit, word_of_bits, word_of_lt}

pub ltb-sub : (j m f : ℕ) → ltb j (m - f) ≡ ltb (f + j) m
ltb-sub j m f = ⊎_elim
    (λ (h : f + j < m). lt-ltb j (m - f) (omega arith) ∙ sym (lt-ltb (f + j) m h))
    (λ (h : m ≤ f + j). le-ltb j (m - f) (omega arith) ∙ sym (le-ltb (f + j) m h))
    (cases_lt (f + j) m)

pub length-window : (l : List Bool) (k n : ℕ) → length (window l k n) ≡ n
unfolding window
length-window l k zero = refl
length-window l k (suc n) = ap suc (length-window l (suc k) n)

-- a window cut in two
pub window-add : (l : List Bool) (k a b : ℕ) → window l k (a + b) ≡ window l k a ++ window l (k + a) b
unfolding window
window-add l k zero b = ap₂ (λ (x y : ℕ). window l x y) (sym (add-zero k)) (zero-add b)
window-add l k (suc a) b =
    rw suc-add
    (ap (λ (t : List Bool). get_or l k false ∷ t) (window-add l (suc k) a b
    ∙ (let e : suc k + a ≡ k + suc a = omega arith in ap (λ (x : ℕ). window l (suc k) a ++ window l x b) e)))

-- a part of a window
pub window-cut : (l : List Bool) (k m o n : ℕ) → o + n ≤ m → take n (drop o (window l k m)) ≡ window l (k + o) n
window-cut l k m o n h =
    let e : m ≡ o + (n + (m - (o + n))) = omega arith in
    ap (λ (x : ℕ). take n (drop o (window l k x))) e
    ∙ ap (λ (t : List Bool). take n (drop o t)) (window-add l k o (n + (m - (o + n))))
    ∙ ap (take n) (drop_at (window l k o) (window l (k + o) (n + (m - (o + n)))) o (length-window l k o))
    ∙ ap (take n) (window-add l (k + o) n (m - (o + n)))
    ∙ take_at (window l (k + o) n) (window l (k + o + n) (m - (o + n))) n (length-window l (k + o) n)

pub window-drop : (l : List Bool) (a k n : ℕ) → window (drop a l) k n ≡ window l (a + k) n
unfolding window
window-drop l a k zero = refl
window-drop l a k (suc n) =
    ap₂ (λ (x : Bool) (t : List Bool). x ∷ t) (get_or-drop a l k false)
    (window-drop l a (suc k) n ∙ ap (λ (x : ℕ). window l x n) (add-suc a k))

-- a whole list is a window of itself
pub window-all : (l : List Bool) → window l 0 (length l) ≡ l
unfolding window
window-all [] = refl
window-all (x ∷ l) = ap (λ (t : List Bool). x ∷ t) (sym (window-drop (x ∷ l) 1 0 (length l)) ∙ window-all l)

-- past the end of a list a window is zeros
pub window-past : (l : List Bool) (k n : ℕ) → length l ≤ k → window l k n ≡ copies n false
unfolding window copies
window-past l k zero h = refl
window-past l k (suc n) h = ap₂ (λ (x : Bool) (t : List Bool). x ∷ t) (get_or-eq_default l false h) (window-past l (suc k) n (omega arith))

-- ---- copies of a flag

pub length-copies : (n : ℕ) (x : Bool) → length (copies n x) ≡ n
unfolding copies
length-copies zero x = refl
length-copies (suc n) x = ap suc (length-copies n x)

pub at_copies : (m : ℕ) (x : Bool) (k : ℕ) → k < m → get_or (copies m x) k false ≡ x
unfolding copies
at_copies zero x k h = absurd (omega arith)
at_copies (suc m) x zero h = refl
at_copies (suc m) x (suc k) h = at_copies m x k (omega arith)

pub copies-window : (m : ℕ) (x : Bool) (k n : ℕ) → k + n ≤ m → copies n x ≡ window (copies m x) k n
unfolding window copies
copies-window m x k zero h = refl
copies-window m x k (suc n) h =
    ap₂ (λ (y : Bool) (t : List Bool). y ∷ t) (sym (at_copies m x k (omega arith))) (copies-window m x (suc k) n (omega arith))

-- ---- by the flag

pub at-window : (l : List Bool) (k n j : ℕ) → get_or (window l k n) j false ≡ (ltb j n && get_or l (k + j) false)
unfolding window
at-window l k zero j = rw (le-ltb j 0 zero-le)
at-window l k (suc n) zero = rw (lt-ltb 0 (suc n) (omega arith), add-zero)
at-window l k (suc n) (suc j) =
    at-window l (suc k) n j
    ∙ ap₂ (λ (x : Bool) (y : ℕ). x && get_or l y false) (sym (leb-suc-suc (suc j) n)) (let e : suc k + j ≡ k + suc j = omega arith in e)

pub at_in : (l : List Bool) (k n j : ℕ) → j < n → get_or (window l k n) j false ≡ get_or l (k + j) false
at_in l k n j h = at-window l k n j ∙ ap (λ (t : Bool). t && get_or l (k + j) false) (lt-ltb j n h)

pub at_take : (n : ℕ) (l : List Bool) (j : ℕ) → get_or (take n l) j false ≡ (ltb j n && get_or l j false)
at_take n l j = ⊎_elim
    (λ (h : j < n). rw (lt-ltb j n h) (get_or-take n l j false h))
    (λ (h : n ≤ j). rw (le-ltb j n h) (get_or-eq_default (take n l) false (omega (arith, length-take n l))))
    (cases_lt j n)

-- windows with the same flags are equal
pub window-ext : (a b : List Bool) (k h n : ℕ) → ((j : ℕ) → j < n → get_or a (k + j) false ≡ get_or b (h + j) false)
    → window a k n ≡ window b h n
unfolding window
window-ext a b k h zero p = refl
window-ext a b k h (suc n) p =
    ap₂ (λ (x : Bool) (t : List Bool). x ∷ t)
    (ap (λ (x : ℕ). get_or a x false) (sym (add-zero k)) ∙ p 0 (omega arith) ∙ ap (λ (x : ℕ). get_or b x false) (add-zero h))
    (window-ext a b (suc k) (suc h) n (λ j q.
    let e : suc k + j ≡ k + suc j = omega arith in
    let f : h + suc j ≡ suc h + j = omega arith in
    ap (λ (x : ℕ). get_or a x false) e ∙ p (suc j) (omega arith) ∙ ap (λ (x : ℕ). get_or b x false) f))

-- a list of n flags is the window that has them
pub as-window : (l b : List Bool) (h n : ℕ) → length l ≡ n → ((j : ℕ) → j < n → get_or l j false ≡ get_or b (h + j) false)
    → l ≡ window b h n
as-window l b h n e p =
    sym (window-all l) ∙ ap (window l 0) e
    ∙ window-ext l b 0 h n (λ j q. let z : 0 + j ≡ j = omega arith in ap (λ (x : ℕ). get_or l x false) z ∙ p j q)

-- a window of a window, inside it
pub in_window : (l : List Bool) (k d s n : ℕ) → s + n ≤ d → window (window l k d) s n ≡ window l (k + s) n
in_window l k d s n h = window-ext (window l k d) l s (k + s) n (λ j p.
    let e : k + (s + j) ≡ k + s + j = omega arith in
    at_in l k d (s + j) (omega arith) ∙ ap (λ (x : ℕ). get_or l x false) e)

-- the first flags of a window, with zeros after them
pub window-take : (l : List Bool) (k m n : ℕ) → window (take m (window l k n)) 0 n ≡ window (window l k m) 0 n
window-take l k m n = window-ext (take m (window l k n)) (window l k m) 0 0 n (λ j h.
    let z : 0 + j ≡ j = omega arith in
    ap (λ (x : ℕ). get_or (take m (window l k n)) x false) z ∙ at_take m (window l k n) j
    ∙ ap (λ (t : Bool). ltb j m && t) (at_in l k n j h)
    ∙ sym (ap (λ (x : ℕ). get_or (window l k m) x false) z ∙ at-window l k m j))

-- the d flags of the number of a list
pub bits-window : (d : ℕ) (l : List Bool) → bits d (word_of l) ≡ window l 0 d
unfolding bits window word_of
bits-window zero l = refl
bits-window (suc d) [] = bits-zero (suc d) ∙ sym (window-past [] 0 (suc d) zero-le)
bits-window (suc d) (b ∷ l) =
    ap₂ (λ (x : Bool) (t : List Bool). x ∷ t)
    (ap is_one (digits_mod (word_of l) (digit_lt b)) ∙ is_one-digit b)
    (ap (bits d) (digits_div (word_of l) (digit_lt b)) ∙ bits-window d l ∙ window-drop (b ∷ l) 1 0 d)

-- zeros after a list do not change its number
pub word_of_padded : (d : ℕ) (l : List Bool) → length l ≤ d → word_of (window l 0 d) ≡ word_of l
word_of_padded d l h = ap word_of (sym (bits-window d l)) ∙ word_of_bits d (word_of l) (lt_of_lt_of_le (word_of_lt l) (pow_mono h))

-- the number that has a list's flags
pub word_value : (d : ℕ) (l : List Bool) (r : ℕ) → r < 2 ^ d → length l ≤ d → bits d r ≡ window l 0 d → r ≡ word_of l
word_value d l r b h p = sym (word_of_bits d r b) ∙ ap word_of p ∙ word_of_padded d l h

-- ---- writing over a list

pub over_none : {A : Type 0} (l : List A) → over l [] ≡ l
unfolding over
over_none [] = refl
over_none (x ∷ l) = refl

pub length_over : {A : Type 0} (l m : List A) → length (over l m) ≡ length l
unfolding over
length_over [] m = refl
length_over (x ∷ l) [] = refl
length_over (x ∷ l) (y ∷ m) = ap suc (length_over l m)

pub over-append : {A : Type 0} (a b c d : List A) → length a ≡ length b → over (a ++ c) (b ++ d) ≡ b ++ over c d
unfolding over
over-append [] [] c d e = refl
over-append [] (y ∷ b) c d e = absurd (omega arith)
over-append (x ∷ a) [] c d e = absurd (omega arith)
over-append (x ∷ a) (y ∷ b) c d e = ap (λ t. y ∷ t) (over-append a b c d (omega arith))

pub over-left : {A : Type 0} (a c m : List A) → length a ≡ length m → over (a ++ c) m ≡ over a m ++ c
unfolding over
over-left [] c [] e = over_none c
over-left [] c (y ∷ m) e = absurd (omega arith)
over-left (x ∷ a) c [] e = absurd (omega arith)
over-left (x ∷ a) c (y ∷ m) e = ap (λ t. y ∷ t) (over-left a c m (omega arith))

-- what does not fit is left out
pub over_enough : {A : Type 0} (l a b : List A) → length l ≤ length a → over l (a ++ b) ≡ over l a
unfolding over
over_enough [] a b h = refl
over_enough (x ∷ l) [] b h = absurd (omega arith)
over_enough (x ∷ l) (y ∷ a) b h = ap (λ t. y ∷ t) (over_enough l a b (omega arith))

-- one more element
pub set-over : {A : Type 0} (l m : List A) (b : A) → set (over l m) (length m) b ≡ over l (m ++ (b ∷ []))
unfolding over
set-over [] [] b = refl
set-over [] (y ∷ m) b = refl
set-over (x ∷ l) [] b = ap (λ t. b ∷ t) (sym (over_none l))
set-over (x ∷ l) (y ∷ m) b = ap (λ t. y ∷ t) (set-over l m b)

-- m written after a
pub over-more : {A : Type 0} (l a m : List A) → take (length a) (over l a) ++ over (drop (length a) (over l a)) m ≡ over l (a ++ m)
unfolding over
over-more l [] m = ap (λ t. over t m) (over_none l)
over-more [] (y ∷ a) m = refl
over-more (x ∷ l) (y ∷ a) m = ap (λ t. y ∷ t) (over-more l a m)

-- written over a list that ends at n or before, m changes nothing
pub over_at-past : (l : List Bool) (n : ℕ) (m : List Bool) → length l ≤ n → l ≡ over_at l n m
unfolding over_at over
over_at-past [] n m h = sym (past-nil n)
  where
    past-nil : (n : ℕ) → take n [] ++ over (drop n []) m ≡ []
    past-nil zero = refl
    past-nil (suc n) = refl
over_at-past (x ∷ l) zero m h = absurd (omega arith)
over_at-past (x ∷ l) (suc n) m h = ap (λ t. x ∷ t) (over_at-past l n m (omega arith))
