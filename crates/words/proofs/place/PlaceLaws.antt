-- Flags joined by or, by position; a word joined at a byte, and two of them a word at any flag.
use Rattle.std.proofs.Common.{◌≡◌, ℕ, zero, suc, ◌+◌, ◌-◌, ◌*◌, ◌/◌, ◌%◌, ◌<◌, ◌≤◌, ◌||◌, ◌⊎◌, inl, inr, Bool, true, false, cond, ltb}
use Rattle.std.proofs.Common.{lt-ltb, le-ltb}
use Rattle.std.proofs.Common.{List, [], ◌∷◌, ◌++◌, length, get_or, ext_get_or, refl, sym, ap, ap₂, ◌∙◌, arith}
use Rattle.std.proofs.Math.Bool.{or-false}
use Rattle.std.proofs.lemmas.Bool.{cases_lt}
use Rattle.std.proofs.lemmas.List.{get_or_append_left, get_or-append_right, get_or_past}
use mathlib.Core.List.{zip_with}
use Rattle.words.specs.Flags.{copies, over_at, window, word_flags}
use Rattle.words.specs.Place.{or_at, or_over}
use Rattle.words.proofs.columns.ColumnLaws.{at_zip_with}
use Rattle.words.proofs.flags.Bits.{length-bits}
use Rattle.words.proofs.flags.Windows.{at_copies, at_in, length-copies, length-window}
use Rattle.words.proofs.theorems.Plain.{length-over_at, over_at-after, over_at-before, over_at-in}

-- flag j of a list that starts at flag k; false before it and past its end
abbrev pub from_flag : List Bool → ℕ → ℕ → Bool
from_flag m k j = cond (ltb j k) false (get_or m (j - k) false)

or-assoc : (x y z : Bool) → ((x || y) || z) ≡ (x || (y || z))
or-assoc true y z = refl
or-assoc false y z = refl

before : (m : List Bool) (k j : ℕ) → j < k → from_flag m k j ≡ false
before m k j p = rw (lt-ltb j k p) refl

from : (m : List Bool) (k j : ℕ) → k ≤ j → from_flag m k j ≡ get_or m (j - k) false
from m k j p = rw (le-ltb j k p) refl

shifted : (m : List Bool) (n j : ℕ) → (j < n) ⊎ (n ≤ j) → from_flag m n j ≡ from_flag m (suc n) (suc j)
shifted m n j (inl p) = before m n j p ∙ sym (before m (suc n) (suc j) (omega arith))
shifted m n j (inr p) =
    let e : j - n ≡ suc j - suc n = omega arith in
    from m n j p ∙ ap (λ (i : ℕ). get_or m i false) e ∙ sym (from m (suc n) (suc j) (omega arith))

-- ---- by position

length-or_over : (l m : List Bool) → length (or_over l m) ≡ length l
unfolding or_over
length-or_over [] m = refl
length-or_over (x ∷ l) [] = refl
length-or_over (x ∷ l) (y ∷ m) = ap suc (length-or_over l m)

at-or_over : (l m : List Bool) (j : ℕ) → j < length l → get_or (or_over l m) j false ≡ (get_or l j false || get_or m j false)
unfolding or_over
at-or_over [] m j p = absurd (omega arith)
at-or_over (x ∷ l) [] j p = sym (or-false (get_or (x ∷ l) j false))
at-or_over (x ∷ l) (y ∷ m) zero p = refl
at-or_over (x ∷ l) (y ∷ m) (suc j) p = at-or_over l m j (omega arith)

pub length-or_at : (l : List Bool) (n : ℕ) (m : List Bool) → length (or_at l n m) ≡ length l
unfolding or_at or_over
length-or_at [] zero m = refl
length-or_at [] (suc n) m = refl
length-or_at (x ∷ l) zero m = length-or_over (x ∷ l) m
length-or_at (x ∷ l) (suc n) m = ap suc (length-or_at l n m)

-- Flag j is the old one, or that of m.
pub at-or_at : (l : List Bool) (n : ℕ) (m : List Bool) (j : ℕ) → j < length l
    → get_or (or_at l n m) j false ≡ (get_or l j false || from_flag m n j)
unfolding or_at
at-or_at [] n m j p = absurd (omega arith)
at-or_at (x ∷ l) zero m j p =
    let e : j - 0 ≡ j = omega arith in
    at-or_over (x ∷ l) m j p
    ∙ ap (λ (t : Bool). get_or (x ∷ l) j false || t) (sym (from m 0 j (omega arith) ∙ ap (λ (i : ℕ). get_or m i false) e))
at-or_at (x ∷ l) (suc n) m zero p = sym (ap (λ (t : Bool). x || t) (before m (suc n) zero (omega arith)) ∙ or-false x)
at-or_at (x ∷ l) (suc n) m (suc j) p =
    at-or_at l n m j (omega arith) ∙ ap (λ (t : Bool). get_or l j false || t) (shifted m n j (cases_lt j n))

-- a list of as many flags, each of them joined, is the joined list
is-or_at : (l : List Bool) (n : ℕ) (m new : List Bool) → length new ≡ length l
    → ((j : ℕ) → j < length l → get_or new j false ≡ (get_or l j false || from_flag m n j)) → new ≡ or_at l n m
is-or_at l n m new long each =
    ext_get_or false new (or_at l n m) (long ∙ sym (length-or_at l n m))
    (λ j p. let q : j < length l = omega (arith, long) in each j q ∙ sym (at-or_at l n m j q))

-- ---- a word joined at a byte

pub or-stored : (F G : List Bool) (k : ℕ) (x m : List Bool) → G ≡ over_at F k x → x ≡ zip_with ◌||◌ (window F k 64) m → length x ≡ 64
    → length m ≡ 64
    → G ≡ or_at F k m
or-stored F G k x m g z lx lm =
    is-or_at F k m G (ap length g ∙ length-over_at F k x) (λ j p. ap (λ (l : List Bool). get_or l j false) g ∙ by j p (cases_lt j k))
  where
    inside : (j i : ℕ) → j < length F → j ≡ k + i → (i < 64) ⊎ (64 ≤ i)
        → get_or (over_at F k x) (k + i) false ≡ (get_or F (k + i) false || get_or m i false)
    inside j i p e (inl q) =
        over_at-in F k x i (omega arith) (omega arith) ∙ ap (λ (l : List Bool). get_or l i false) z
        ∙ at_zip_with ◌||◌ (window F k 64) m i (omega (arith, length-window F k 64)) (omega arith)
        ∙ ap (λ (t : Bool). t || get_or m i false) (at_in F k 64 i q)
    inside j i p e (inr q) =
        over_at-after F k x i (omega arith)
        ∙ sym (ap (λ (t : Bool). get_or F (k + i) false || t) (get_or_past m i false (omega arith)) ∙ or-false _)

    by : (j : ℕ) → j < length F → (j < k) ⊎ (k ≤ j) → get_or (over_at F k x) j false ≡ (get_or F j false || from_flag m k j)
    by j p (inl q) = over_at-before F k x j q ∙ sym (ap (λ (t : Bool). get_or F j false || t) (before m k j q) ∙ or-false _)
    by j p (inr q) =
        let e : j ≡ k + (j - k) = omega arith in
        ap (λ (i : ℕ). get_or (over_at F k x) i false) e ∙ inside j (j - k) p e (cases_lt (j - k) 64)
        ∙ ap₂ (λ (i : ℕ) (t : Bool). get_or F i false || t) (sym e) (sym (from m k j q))

-- ---- a word in two parts

module _ (W : List Bool) (k s : ℕ) (long : length W ≡ 64) (small : s < 64) where
  abbrev low : List Bool
  low = window (copies s false ++ W) 0 64

  abbrev high : List Bool
  high = window W (64 - s) 64

  at-low : (i : ℕ) → i < 64 → get_or low i false ≡ get_or (copies s false ++ W) i false
  at-low i p = let e : 0 + i ≡ i = omega arith in at_in (copies s false ++ W) 0 64 i p
      ∙ ap (λ (n : ℕ). get_or (copies s false ++ W) n false) e

  parts : (j : ℕ) → (j < k + s) ⊎ (k + s ≤ j) → (j < k) ⊎ (k ≤ j) → (j < k + 64) ⊎ (k + 64 ≤ j)
      → (from_flag low k j || from_flag high (k + 64) j) ≡ from_flag W (k + s) j
  parts j (inl a) (inl b) c =
      ap₂ (λ (x y : Bool). x || y) (before low k j b) (before high (k + 64) j (omega arith)) ∙ sym (before W (k + s) j a)
  parts j (inl a) (inr b) c =
      let e : get_or low (j - k) false ≡ false =
      at-low (j - k) (omega arith) ∙ get_or_append_left (copies s false) W false (j - k) (omega (arith, length-copies s false))
      ∙ at_copies s false (j - k) (omega arith) in
      ap₂ (λ (x y : Bool). x || y) (from low k j b ∙ e) (before high (k + 64) j (omega arith)) ∙ sym (before W (k + s) j a)
  parts j (inr a) (inl b) c = absurd (omega arith)
  parts j (inr a) (inr b) (inl c) =
      let i : j - k - s ≡ j - (k + s) = omega arith in
      let e : get_or low (j - k) false ≡ get_or W (j - (k + s)) false =
      at-low (j - k) (omega arith) ∙ get_or-append_right (copies s false) W s (j - k) false (length-copies s false) (omega arith)
      ∙ ap (λ (n : ℕ). get_or W n false) i in
      ap₂ (λ (x y : Bool). x || y) (from low k j b ∙ e) (before high (k + 64) j c) ∙ or-false _ ∙ sym (from W (k + s) j a)
  parts j (inr a) (inr b) (inr c) =
      let past : get_or low (j - k) false ≡ false =
      get_or_past low (j - k) false (omega (arith, length-window (copies s false ++ W) 0 64)) in
      let e : 64 - s + (j - (k + 64)) ≡ j - (k + s) = omega arith in
      ap₂ (λ (x y : Bool). x || y) (from low k j b ∙ past) (from high (k + 64) j c) ∙ tail (cases_lt (j - (k + 64)) 64)
      ∙ sym (from W (k + s) j a)
    where
      tail : (j - (k + 64) < 64) ⊎ (64 ≤ j - (k + 64)) → get_or high (j - (k + 64)) false ≡ get_or W (j - (k + s)) false
      tail (inl q) = let e : 64 - s + (j - (k + 64)) ≡ j - (k + s) = omega arith in at_in W (64 - s) 64 (j - (k + 64)) q
          ∙ ap (λ (n : ℕ). get_or W n false) e
      tail (inr q) =
          get_or_past high (j - (k + 64)) false (omega (arith, length-window W (64 - s) 64))
          ∙ sym (get_or_past W (j - (k + s)) false (omega arith))

  pub put : (F G H : List Bool) → G ≡ or_at F k low → H ≡ or_at G (k + 64) high → H ≡ or_at F (k + s) W
  put F G H g h =
      let lg : length G ≡ length F = ap length g ∙ length-or_at F k low in
      let lh : length H ≡ length F = ap length h ∙ length-or_at G (k + 64) high ∙ lg in
      is-or_at F (k + s) W H lh (λ j p.
      let q : j < length G = omega (arith, lg) in
      ap (λ (l : List Bool). get_or l j false) h ∙ at-or_at G (k + 64) high j q
      ∙ ap (λ (t : Bool). t || from_flag high (k + 64) j) (ap (λ (l : List Bool). get_or l j false) g ∙ at-or_at F k low j p)
      ∙ or-assoc (get_or F j false) (from_flag low k j) (from_flag high (k + 64) j)
      ∙ ap (λ (t : Bool). get_or F j false || t) (parts j (cases_lt j (k + s)) (cases_lt j k) (cases_lt j (k + 64))))

-- ---- which flags are set

not-set : (x : Bool) → x ≡ false → x ≡ true → ⊥
not-set x e f = let g : false ≡ true = sym e ∙ f in let z : ◌≡◌ {A = ℕ} 0 1 = cc g in omega arith

inside : (l : List Bool) (p : ℕ) → get_or l p false ≡ true → (p < length l) ⊎ (length l ≤ p) → p < length l
inside l p e (inl h) = h
inside l p e (inr h) = absurd (not-set _ (get_or_past l p false h) e)

or_parts-true : (x y : Bool) → (x || y) ≡ true → (x ≡ true) ⊎ (y ≡ true)
or_parts-true true y e = inl refl
or_parts-true false y e = inr e

or-right : (x y : Bool) → y ≡ true → (x || y) ≡ true
or-right true y e = refl
or-right false y e = e

-- a flag that is set stays set,
pub or_at-kept : (l : List Bool) (n : ℕ) (m : List Bool) (p : ℕ) → get_or l p false ≡ true → get_or (or_at l n m) p false ≡ true
or_at-kept l n m p e = at-or_at l n m p (inside l p e (cases_lt p (length l))) ∙ ap (λ (x : Bool). x || from_flag m n p) e

-- each set flag of m is set,
pub or_at-put : (l : List Bool) (n : ℕ) (m : List Bool) (j : ℕ) → n + j < length l → get_or m j false ≡ true
    → get_or (or_at l n m) (n + j) false ≡ true
or_at-put l n m j h e =
    let back : n + j - n ≡ j = omega arith in
    at-or_at l n m (n + j) h
    ∙ or-right (get_or l (n + j) false) (from_flag m n (n + j))
    (from m n (n + j) (omega arith) ∙ ap (λ (i : ℕ). get_or m i false) back ∙ e)

-- and no other is.
pub or_at-only : (l : List Bool) (n : ℕ) (m : List Bool) (p : ℕ) → get_or (or_at l n m) p false ≡ true
    → (get_or l p false ≡ true) ⊎ ((j : ℕ) × ((p ≡ n + j) × (get_or m j false ≡ true)))
or_at-only l n m p e =
    let h : p < length (or_at l n m) = inside (or_at l n m) p e (cases_lt p (length (or_at l n m))) in
    let q : p < length l = omega (arith, length-or_at l n m) in
    elim (or_parts-true (get_or l p false) (from_flag m n p) (sym (at-or_at l n m p q) ∙ e)) [
      | inl f ↦ inl f
      | inr f ↦ inr (later m n p f (cases_lt p n))
    ]
  where
    later : (m : List Bool) (n p : ℕ) → from_flag m n p ≡ true → (p < n) ⊎ (n ≤ p) → (j : ℕ) × ((p ≡ n + j) × (get_or m j false ≡ true))
    later m n p f (inl h) = absurd (not-set _ (before m n p h) f)
    later m n p f (inr h) = (p - n, (omega arith, sym (from m n p h) ∙ f))

-- ---- both parts of a word

pub both : (F G H : List Bool) (bit w low high at : ℕ) → at ≡ bit / 8
    → word_flags low ≡ window (copies (bit % 8) false ++ word_flags w) 0 64
    → word_flags high ≡ window (word_flags w) (64 - bit % 8) 64 → G ≡ or_at F (8 * at) (word_flags low)
    → H ≡ or_at G (8 * (at + 8)) (word_flags high) → H ≡ or_at F bit (word_flags w)
both F G H bit w low high at place a b g h =
    let whole : 8 * at + bit % 8 ≡ bit = omega arith in
    let next : 8 * (at + 8) ≡ 8 * at + 64 = omega arith in
    put (word_flags w) (8 * at) (bit % 8) (length-bits 64 w) (omega arith) F G H (g ∙ ap (or_at F (8 * at)) a)
    (h ∙ ap (λ (n : ℕ). or_at G n (word_flags high)) next ∙ ap (or_at G (8 * at + 64)) b)
    ∙ ap (λ (n : ℕ). or_at F n (word_flags w)) whole
