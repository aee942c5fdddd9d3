-- Three lists combined flag by flag: by the flag, in parts, and word by word. One law for every operation.
use Rattle.std.proofs.Common.{◌≡◌, refl, sym, ap, ap₂, ◌∙◌, Bool, true, false, not, cond, ◌&&◌, ◌||◌, List, [], ◌∷◌, map, ℕ, zero, suc}
use Rattle.std.proofs.Common.{◌+◌, ◌-◌, ◌*◌, ◌≤◌, ◌<◌, zero-le, add-zero, arith, length, take, get_or, ltb, lt-ltb, le-ltb}
use Rattle.std.proofs.Math.Dec.{leb-suc-suc}
use Rattle.std.proofs.Math.ListN.{get_or-eq_default}
use mathlib.Core.List.{zip_with}
use Rattle.words.specs.Flags.{bits, copies, flags_of, window}
use Rattle.words.specs.Loops.{stretch}
use Rattle.words.specs.Ops.{zip3}
use Rattle.words.proofs.flags.Windows.{ltb-sub, at_take, window-ext, as-window}

-- ---- an operation that reads fewer lists

pub zip_first : (f : Bool → Bool) (a b c : List Bool) → length a ≡ length b → length a ≡ length c → zip3 (λ x y z. f x) a b c ≡ map f a
unfolding zip3
zip_first f [] b c e k = refl
zip_first f (x ∷ a) [] c e k = absurd (omega arith)
zip_first f (x ∷ a) (y ∷ b) [] e k = absurd (omega arith)
zip_first f (x ∷ a) (y ∷ b) (z ∷ c) e k = ap (λ (t : List Bool). f x ∷ t) (zip_first f a b c (omega arith) (omega arith))

pub zip_two : (f : Bool → Bool → Bool) (a b c : List Bool) → length a ≡ length b → length a ≡ length c
    → zip3 (λ x y z. f x y) a b c ≡ zip_with f a b
unfolding zip3 zip_with
zip_two f [] b c e k = refl
zip_two f (x ∷ a) [] c e k = refl
zip_two f (x ∷ a) (y ∷ b) [] e k = absurd (omega arith)
zip_two f (x ∷ a) (y ∷ b) (z ∷ c) e k = ap (λ (t : List Bool). f x y ∷ t) (zip_two f a b c (omega arith) (omega arith))

-- ---- the operations that are put together from others

pub zip-map : (f : Bool → Bool → Bool) (g : Bool → Bool) (a b : List Bool) → zip_with f a (map g b) ≡ zip_with (λ x y. f x (g y)) a b
unfolding zip_with
zip-map f g [] b = refl
zip-map f g (x ∷ a) [] = refl
zip-map f g (x ∷ a) (y ∷ b) = ap (λ (t : List Bool). f x (g y) ∷ t) (zip-map f g a b)

-- operations that agree on every pair of flags, and on every pair with the arguments exchanged
pub zip-same : (f g : Bool → Bool → Bool) → ((x y : Bool) → f x y ≡ g x y) → (a b : List Bool) → zip_with f a b ≡ zip_with g a b
unfolding zip_with
zip-same f g h [] b = refl
zip-same f g h (x ∷ a) [] = refl
zip-same f g h (x ∷ a) (y ∷ b) = ap₂ (λ (z : Bool) (t : List Bool). z ∷ t) (h x y) (zip-same f g h a b)

pub zip-flip : (f g : Bool → Bool → Bool) → ((x y : Bool) → f y x ≡ g x y) → (a b : List Bool) → zip_with f b a ≡ zip_with g a b
unfolding zip_with
zip-flip f g h [] [] = refl
zip-flip f g h [] (y ∷ b) = refl
zip-flip f g h (x ∷ a) [] = refl
zip-flip f g h (x ∷ a) (y ∷ b) = ap₂ (λ (z : Bool) (t : List Bool). z ∷ t) (h x y) (zip-flip f g h a b)

select-one : (x y z : Bool) → ((x && y) || (not x && z)) ≡ cond x y z
select-one true true z = refl
select-one true false z = refl
select-one false y z = refl

pub select-flags : (a b c : List Bool) → length a ≡ length b → length a ≡ length c
    → zip_with ◌||◌ (zip_with ◌&&◌ a b) (zip_with ◌&&◌ (map not a) c) ≡ zip3 cond a b c
unfolding zip3 zip_with
select-flags [] b c e k = refl
select-flags (x ∷ a) [] c e k = absurd (omega arith)
select-flags (x ∷ a) (y ∷ b) [] e k = absurd (omega arith)
select-flags (x ∷ a) (y ∷ b) (z ∷ c) e k =
    ap₂ (λ (t : Bool) (l : List Bool). t ∷ l) (select-one x y z) (select-flags a b c (omega arith) (omega arith))

pub else-set : (x y : Bool) → (y || not x) ≡ cond x y true
else-set true true = refl
else-set true false = refl
else-set false true = refl
else-set false false = refl

pub else-clear : (x y : Bool) → (x && y) ≡ cond x y false
else-clear true y = refl
else-clear false y = refl

-- ---- three windows combined

module _ (f : Bool → Bool → Bool → Bool) (A B C : List Bool) where
  pub length-zip : (p q r n : ℕ) → length (zip3 f (window A p n) (window B q n) (window C r n)) ≡ n
  unfolding zip3 window
  length-zip p q r zero = refl
  length-zip p q r (suc n) = ap suc (length-zip (suc p) (suc q) (suc r) n)

  -- flag j
  pub at-zip : (p q r n j : ℕ) → get_or (zip3 f (window A p n) (window B q n) (window C r n)) j false
      ≡ (ltb j n && f (get_or A (p + j) false) (get_or B (q + j) false) (get_or C (r + j) false))
  unfolding zip3 window
  at-zip p q r zero j = rw (le-ltb j 0 zero-le)
  at-zip p q r (suc n) zero = rw (lt-ltb 0 (suc n) (omega arith), add-zero, add-zero, add-zero)
  at-zip p q r (suc n) (suc j) =
      let ea : suc p + j ≡ p + suc j = omega arith in
      let eb : suc q + j ≡ q + suc j = omega arith in
      let ec : suc r + j ≡ r + suc j = omega arith in
      at-zip (suc p) (suc q) (suc r) n j ∙ rw (ea, eb, ec, leb-suc-suc (suc j) n)

  pub at-zip-in : (p q r n j : ℕ) → j < n → get_or (zip3 f (window A p n) (window B q n) (window C r n)) j false
      ≡ f (get_or A (p + j) false) (get_or B (q + j) false) (get_or C (r + j) false)
  at-zip-in p q r n j h =
      at-zip p q r n j ∙ ap (λ (t : Bool). t && f (get_or A (p + j) false) (get_or B (q + j) false) (get_or C (r + j) false)) (lt-ltb j n h)

  -- flag j of the stretches that begin k flags later is flag k + j
  at-later : (p q r k j : ℕ) → f (get_or A (p + k + j) false) (get_or B (q + k + j) false) (get_or C (r + k + j) false)
      ≡ f (get_or A (p + (k + j)) false) (get_or B (q + (k + j)) false) (get_or C (r + (k + j)) false)
  at-later p q r k j =
      let ea : p + k + j ≡ p + (k + j) = omega arith in
      let eb : q + k + j ≡ q + (k + j) = omega arith in
      let ec : r + k + j ≡ r + (k + j) = omega arith in
      rw (ea, eb, ec)

  -- a part
  pub zip-part : (p q r m k n : ℕ) → k + n ≤ m
      → zip3 f (window A (p + k) n) (window B (q + k) n) (window C (r + k) n)
      ≡ window (zip3 f (window A p m) (window B q m) (window C r m)) k n
  zip-part p q r m k n h =
      as-window _ (zip3 f (window A p m) (window B q m) (window C r m)) k n (length-zip (p + k) (q + k) (r + k) n) (λ j b.
      at-zip-in (p + k) (q + k) (r + k) n j b ∙ at-later p q r k j ∙ sym (at-zip-in p q r m (k + j) (omega arith)))

  -- a part cut at the end, with zeros after it
  pub zip-cut : (p q r m k n : ℕ)
      → window (take (m - k) (zip3 f (window A (p + k) n) (window B (q + k) n) (window C (r + k) n))) 0 n
      ≡ window (zip3 f (window A p m) (window B q m) (window C r m)) k n
  zip-cut p q r m k n =
      window-ext (take (m - k) (zip3 f (window A (p + k) n) (window B (q + k) n) (window C (r + k) n)))
      (zip3 f (window A p m) (window B q m) (window C r m)) 0 k n (λ j h.
      let z : 0 + j ≡ j = omega arith in
      ap (λ (x : ℕ). get_or (take (m - k) (zip3 f (window A (p + k) n) (window B (q + k) n) (window C (r + k) n))) x false) z
      ∙ at_take (m - k) (zip3 f (window A (p + k) n) (window B (q + k) n) (window C (r + k) n)) j
      ∙ ap₂ (λ (s t : Bool). s && t) (ltb-sub j m k) (at-zip-in (p + k) (q + k) (r + k) n j h ∙ at-later p q r k j)
      ∙ sym (at-zip p q r m (k + j)))

  -- past the end of all three, all flags are equal
  pub zip-past : (p q r n : ℕ) → length A ≤ p → length B ≤ q → length C ≤ r
      → zip3 f (window A p n) (window B q n) (window C r n) ≡ copies n (f false false false)
  unfolding zip3 window copies
  zip-past p q r zero ha hb hc = refl
  zip-past p q r (suc n) ha hb hc =
      ap₂ (λ (x : Bool) (t : List Bool). x ∷ t)
      (rw (get_or-eq_default A false ha, get_or-eq_default B false hb, get_or-eq_default C false hc))
      (zip-past (suc p) (suc q) (suc r) n (omega arith) (omega arith) (omega arith))

  -- ---- word i of three stretches

  -- a whole word
  pub zip_word : (p q r m i x y z u v w t : ℕ) → 64 * i + 64 ≤ m → x ≡ p + 64 * i → y ≡ q + 64 * i → z ≡ r + 64 * i
      → bits 64 u ≡ window A x 64 → bits 64 v ≡ window B y 64 → bits 64 w ≡ window C z 64
      → bits 64 t ≡ zip3 f (bits 64 u) (bits 64 v) (bits 64 w)
      → bits 64 t ≡ window (zip3 f (window A p m) (window B q m) (window C r m)) (64 * i) 64
  zip_word p q r m i x y z u v w t h ex ey ez pu pv pw op =
      op ∙ rw (pu, pv, pw, ex, ey, ez) (zip-part p q r m (64 * i) 64 h)

  -- a word cut at the end
  pub cut_word : (p q r m i u v w t s : ℕ)
      → bits 64 u ≡ window A (p + 64 * i) 64 → bits 64 v ≡ window B (q + 64 * i) 64 → bits 64 w ≡ window C (r + 64 * i) 64
      → bits 64 t ≡ zip3 f (bits 64 u) (bits 64 v) (bits 64 w) → bits 64 s ≡ window (take (m - 64 * i) (bits 64 t)) 0 64
      → bits 64 s ≡ window (zip3 f (window A p m) (window B q m) (window C r m)) (64 * i) 64
  cut_word p q r m i u v w t s pu pv pw op cut = cut ∙ rw (op, pu, pv, pw) (zip-cut p q r m (64 * i) 64)

  -- equal starts with other names
  pub zip-starts : (p q r x y z n : ℕ) → x ≡ p → y ≡ q → z ≡ r
      → zip3 f (window A x n) (window B y n) (window C z n) ≡ zip3 f (window A p n) (window B q n) (window C r n)
  zip-starts p q r x y z n ex ey ez = rw (ex, ey, ez)

  -- the flags after the first n, if all three have ended by then
  pub zip-after : (p q r m n : ℕ) → n ≤ m → length A ≤ p + n → length B ≤ q + n → length C ≤ r + n
      → window (zip3 f (window A p m) (window B q m) (window C r m)) n (m - n) ≡ copies (m - n) (f false false false)
  zip-after p q r m n h ha hb hc = sym (zip-part p q r m n (m - n) (omega arith)) ∙ zip-past (p + n) (q + n) (r + n) (m - n) ha hb hc

-- equal stretches with other names
pub zip-at : (f : Bool → Bool → Bool → Bool) (A A' B B' C C' : List ℕ) (p p' q q' r r' n : ℕ) → A ≡ A' → p ≡ p' → B ≡ B' → q ≡ q' → C ≡ C'
    → r ≡ r'
    → zip3 f (stretch A p n) (stretch B q n) (stretch C r n) ≡ zip3 f (stretch A' p' n) (stretch B' q' n) (stretch C' r' n)
zip-at f A A' B B' C C' p p' q q' r r' n ea ep eb eq ec er = rw (ea, ep, eb, eq, ec, er)

-- a part of three stretches combined
pub zip-later : (f : Bool → Bool → Bool → Bool) (A A' B B' C C' : List ℕ) (p p' q q' r r' m k n : ℕ) → A ≡ A' → p ≡ p' + k → B ≡ B'
    → q ≡ q' + k → C ≡ C' → r ≡ r' + k
    → k + n ≤ m → zip3 f (stretch A p n) (stretch B q n) (stretch C r n)
    ≡ window (zip3 f (stretch A' p' m) (stretch B' q' m) (stretch C' r' m)) k n
zip-later f A A' B B' C C' p p' q q' r r' m k n ea ep eb eq ec er h =
    zip-at f A A' B B' C C' p (p' + k) q (q' + k) r (r' + k) n ea ep eb eq ec er
    ∙ zip-part f (flags_of A') (flags_of B') (flags_of C') p' q' r' m k n h

-- a list combined with itself
pub zip-self : (f : Bool → Bool → Bool → Bool) → ((x : Bool) → f x x x ≡ x) → (a : List Bool) → zip3 f a a a ≡ a
unfolding zip3
zip-self f h [] = refl
zip-self f h (x ∷ a) = ap₂ (λ (y : Bool) (t : List Bool). y ∷ t) (h x) (zip-self f h a)
