-- Flags that differ from the one before them, in a word and in lists joined; a word with its first set flag cleared; alternating flags.
use Rattle.std.proofs.Common.{◌≡◌, ℕ, zero, suc, ◌+◌, ◌-◌, ◌*◌, ◌/◌, ◌%◌, ◌^◌, ◌<◌, ◌≤◌, ◌&&◌, Bool, true, false, not}
use Rattle.std.proofs.Common.{List, [], ◌∷◌, ◌++◌, length, take, get_or, refl, sym, ap, ap₂, ◌∙◌, ⊎_elim, lt-ltb, le-ltb, arith}
use Rattle.std.proofs.Math.Bool.{xor}
use Rattle.std.proofs.Math.ListN.{get_or-eq_default}
use Rattle.std.proofs.lemmas.Bool.{cases_lt}
use mathlib.Core.List.{zip_with}
use Rattle.words.specs.Changes.{alternating, changes, without_first}
use Rattle.words.specs.Ends.{leading}
use Rattle.words.specs.Flags.{bits, is_one, window}
use Rattle.words.proofs.flags.Bits.{half_lt, length-bits}
use Rattle.words.proofs.flags.Windows.{at_take, window-drop, window-ext}

-- ---- which flags change

zip-front : (a b : List Bool) → length b ≤ length a → zip_with xor (window a 0 (length b)) b ≡ zip_with xor a b
unfolding zip_with window
zip-front [] [] h = refl
zip-front (x ∷ a) [] h = refl
zip-front [] (y ∷ b) h = absurd (omega arith)
zip-front (x ∷ a) (y ∷ b) h =
    ap (λ (l : List Bool). xor x y ∷ l)
    (ap (λ (l : List Bool). zip_with xor l b) (sym (window-drop (x ∷ a) 1 0 (length b))) ∙ zip-front a b (omega arith))

zip-moved : (x : Bool) (l : List Bool) → zip_with xor (x ∷ l) l ≡ changes x l
unfolding zip_with changes
zip-moved x [] = refl
zip-moved x (y ∷ l) = ap (λ (m : List Bool). xor x y ∷ m) (zip-moved y l)

first-left : (l : List Bool) (k : ℕ) → take 1 (window l k 64) ≡ get_or l k false ∷ []
unfolding window
first-left l k = refl

pub changed : (before w last moved r : ℕ) → bits 64 last ≡ window (bits 64 before) 63 64
    → bits 64 moved ≡ window (take 1 (bits 64 last) ++ bits 64 w) 0 64 → bits 64 r ≡ zip_with xor (bits 64 moved) (bits 64 w)
    → bits 64 r ≡ changes (get_or (bits 64 before) 63 false) (bits 64 w)
changed before w last moved r p q e =
    let W = bits 64 w in
    let x = get_or (bits 64 before) 63 false in
    let long : length W ≡ 64 = length-bits 64 w in
    e
    ∙ ap (λ (l : List Bool). zip_with xor l W)
    (q ∙ ap (λ (l : List Bool). window (l ++ W) 0 64) (ap (take 1) p ∙ first-left (bits 64 before) 63)
    ∙ ap (window (x ∷ W) 0) (sym long))
    ∙ zip-front (x ∷ W) W (omega arith) ∙ zip-moved x W

-- those of two lists joined: before the second one is the last flag of the first
pub changes-append : (x : Bool) (a b : List Bool) (k : ℕ) → length a ≡ suc k
    → changes x (a ++ b) ≡ changes x a ++ changes (get_or a k false) b
unfolding changes
changes-append x [] b k e = absurd (omega arith)
changes-append x (y ∷ []) b zero e = refl
changes-append x (y ∷ []) b (suc k) e = absurd (omega arith)
changes-append x (y ∷ z ∷ a) b zero e = absurd (omega arith)
changes-append x (y ∷ z ∷ a) b (suc k) e = ap (λ (l : List Bool). xor x y ∷ l) (changes-append y (z ∷ a) b k (omega arith))

pub length-changes : (x : Bool) (l : List Bool) → length (changes x l) ≡ length l
unfolding changes
length-changes x [] = refl
length-changes x (y ∷ l) = ap suc (length-changes y l)

pub changes-take : (x : Bool) (l : List Bool) (k : ℕ) → take k (changes x l) ≡ changes x (take k l)
unfolding changes
changes-take x l zero = refl
changes-take x [] (suc k) = refl
changes-take x (y ∷ l) (suc k) = ap (λ (m : List Bool). xor x y ∷ m) (changes-take y l k)

-- ---- the first set flag

and-same : (l : List Bool) → zip_with ◌&&◌ l l ≡ l
unfolding zip_with
and-same [] = refl
and-same (true ∷ l) = ap (λ (m : List Bool). true ∷ m) (and-same l)
and-same (false ∷ l) = ap (λ (m : List Bool). false ∷ m) (and-same l)

-- the number less one has the first set flag cleared, those before it set, and those after it unchanged
pub cleared : (d w : ℕ) → 0 < w → zip_with ◌&&◌ (bits d w) (bits d (w - 1)) ≡ without_first (bits d w)
unfolding bits zip_with without_first
cleared zero w h = refl
cleared (suc d) w h = by (w % 2) refl (λ p. cleared d (w / 2) p)
  where
    -- the last digit and the others of the number less one
    digits : (r t v : ℕ) → w % 2 ≡ r → (w - 1) % 2 ≡ t → (w - 1) / 2 ≡ v
        → ((is_one r && is_one t) ∷ zip_with ◌&&◌ (bits d (w / 2)) (bits d v)) ≡ without_first (is_one r ∷ bits d (w / 2))
        → ((is_one (w % 2) && is_one ((w - 1) % 2)) ∷ zip_with ◌&&◌ (bits d (w / 2)) (bits d ((w - 1) / 2)))
        ≡ without_first (is_one (w % 2) ∷ bits d (w / 2))
    digits r t v e o f h =
        ap₂ (λ (x : Bool) (l : List Bool). x ∷ l) (ap₂ (λ (a b : ℕ). is_one a && is_one b) e o)
        (ap (λ (k : ℕ). zip_with ◌&&◌ (bits d (w / 2)) (bits d k)) f)
        ∙ h ∙ sym (ap (λ (k : ℕ). without_first (is_one k ∷ bits d (w / 2))) e)

    by : (r : ℕ) → w % 2 ≡ r
        → (0 < w / 2 → zip_with ◌&&◌ (bits d (w / 2)) (bits d (w / 2 - 1)) ≡ without_first (bits d (w / 2)))
        → ((is_one (w % 2) && is_one ((w - 1) % 2)) ∷ zip_with ◌&&◌ (bits d (w / 2)) (bits d ((w - 1) / 2)))
        ≡ without_first (is_one (w % 2) ∷ bits d (w / 2))
    by zero e ih =
        digits 0 1 (w / 2 - 1) e (omega arith) (omega arith) (ap (λ (m : List Bool). false ∷ m) (ih (omega arith)))
    by (suc zero) e ih =
        digits 1 0 (w / 2) e (omega arith) (omega arith) (ap (λ (m : List Bool). false ∷ m) (and-same (bits d (w / 2))))
    by (suc (suc r)) e ih = absurd (omega arith)

pub none-cleared : (w : ℕ) → w ≡ 0 → bits 64 w ≡ without_first (bits 64 w)
unfolding bits without_first
none-cleared w e = rw e refl

-- a number that is not 0 has a set flag
pub some_set : (d w : ℕ) → 0 < w → w < 2 ^ d → leading false (bits d w) < d
unfolding bits leading
some_set zero w h q = absurd (omega arith)
some_set (suc d) w h q = by (w % 2) refl (λ p. some_set d (w / 2) p (half_lt d w q))
  where
    by : (r : ℕ) → w % 2 ≡ r → (0 < w / 2 → leading false (bits d (w / 2)) < d) → leading false (is_one (w % 2) ∷ bits d (w / 2)) < suc d
    by zero e ih = rw e (omega (arith, ih (omega arith)))
    by (suc zero) e ih = rw e (omega arith)
    by (suc (suc r)) e ih = absurd (omega arith)

-- ---- alternating flags

pub length-alternating : (n : ℕ) (x : Bool) → length (alternating n x) ≡ n
unfolding alternating
length-alternating zero x = refl
length-alternating (suc n) x = ap suc (length-alternating n (not x))

pub alternating-one : (x : Bool) → x ≡ true → bits 64 0x5555555555555555 ≡ alternating 64 x
unfolding bits alternating
alternating-one x e = rw e refl

pub alternating-zero : (x : Bool) → x ≡ false → bits 64 0xAAAAAAAAAAAAAAAA ≡ alternating 64 x
unfolding bits alternating
alternating-zero x e = rw e refl

-- the flag at a distance from x
abbrev pub flag_after : Bool → ℕ → Bool
flag_after x zero = x
flag_after x (suc j) = flag_after (not x) j

not-not : (x : Bool) → not (not x) ≡ x
not-not true = refl
not-not false = refl

pub at-alternating : (n : ℕ) (x : Bool) (j : ℕ) → j < n → get_or (alternating n x) j false ≡ flag_after x j
unfolding alternating
at-alternating zero x j h = absurd (omega arith)
at-alternating (suc n) x zero h = refl
at-alternating (suc n) x (suc j) h = at-alternating n (not x) j (omega arith)

after-even : (x : Bool) (k j : ℕ) → flag_after x (2 * k + j) ≡ flag_after x j
after-even x zero j = let e : 2 * 0 + j ≡ j = omega arith in ap (flag_after x) e
after-even x (suc k) j =
    let e : 2 * suc k + j ≡ suc (suc (2 * k + j)) = omega arith in
    ap (flag_after x) e ∙ ap (λ (y : Bool). flag_after y (2 * k + j)) (not-not x) ∙ after-even x k j

-- the word at flag 64 * i of n alternating flags
pub alternating-cut : (n : ℕ) (x : Bool) (i w r : ℕ) → bits 64 w ≡ alternating 64 x
    → bits 64 r ≡ window (take (n - 64 * i) (bits 64 w)) 0 64 → bits 64 r ≡ window (alternating n x) (64 * i) 64
alternating-cut n x i w r q p =
    p ∙ ap (λ (t : List Bool). window (take (n - 64 * i) t) 0 64) q
    ∙ window-ext (take (n - 64 * i) (alternating 64 x)) (alternating n x) 0 (64 * i) 64 (λ j b.
    let z : 0 + j ≡ j = omega arith in
    let two : 64 * i + j ≡ 2 * (32 * i) + j = omega arith in
    ap (λ (k : ℕ). get_or (take (n - 64 * i) (alternating 64 x)) k false) z ∙ at_take (n - 64 * i) (alternating 64 x) j
    ∙ ⊎_elim
    (λ (l : j < n - 64 * i).
    rw (lt-ltb j (n - 64 * i) l)
    (at-alternating 64 x j b ∙ sym (at-alternating n x (64 * i + j) (omega arith) ∙ ap (flag_after x) two ∙ after-even x (32 * i) j)))
    (λ (l : n - 64 * i ≤ j).
    rw (le-ltb j (n - 64 * i) l) (sym (get_or-eq_default (alternating n x) false (omega (arith, length-alternating n x)))))
    (cases_lt j (n - 64 * i)))
