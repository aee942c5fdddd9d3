-- The trucks around a cursor: those at or after it, then those before it. A call offers the first of them, and around the cursor that it
-- leaves are the others and then this one.
use Rattle.std.proofs.lemmas.Bool.{cases_lt}
use mathlib.Core.Path.{◌≡◌, refl, sym, ap, ap₂, ◌∙◌}
use mathlib.Core.Bool.{Bool, true, false, cond, ◌&&◌}
use mathlib.Core.List.{List, [], ◌∷◌, ◌++◌, append-nil, append_assoc, append-eq-nil_iff, cons-ne-nil}
use mathlib.Core.Logic.{⊎_elim}
use Prim.Native.Nat.{ℕ, zero, suc, ◌+◌, ◌-◌, ◌≤◌, ◌<◌}
use native.Mathlib.Omega.{arith}
use lib.Dec.{eqb, ltb}
use lib.ListN.{length, length-append}
use borrow.Author.Tests.{eq-eqb, ne_eqb, lt-ltb, le-ltb}
use Rattle.masks.proofs.theorems.NextPlain.{head_of, ones}
use Rattle.dispatch.specs.Offer.{or_else}
use Rattle.dispatch.proofs.statements.Rounds.{many_below, times}

-- ---- parts of a range

cond-append : (x : Bool) (a : ℕ) (s t u : List ℕ) → s ≡ t ++ u → cond x (a ∷ s) s ≡ cond x (a ∷ t) t ++ u
cond-append true a s t u h = ap (λ (r : List ℕ). a ∷ r) h
cond-append false a s t u h = h

ones-add : (f : ℕ → Bool) (a m k : ℕ) → ones f a (m + k) ≡ ones f a m ++ ones f (a + m) k
unfolding ones
ones-add f a zero k =
    let z : 0 + k ≡ k = omega arith in
    let e : a ≡ a + 0 = omega arith in
    ap (ones f a) z ∙ ap (λ (x : ℕ). ones f x k) e
ones-add f a (suc m) k =
    let z : suc m + k ≡ suc (m + k) = omega arith in
    let e : suc a + m ≡ a + suc m = omega arith in
    ap (ones f a) z
    ∙ cond-append (f a) a (ones f (suc a) (m + k)) (ones f (suc a) m) (ones f (a + suc m) k)
    (ones-add f (suc a) m k ∙ ap (λ (x : ℕ). ones f (suc a) m ++ ones f x k) e)

-- a range in which t is the first one: none before it, and the rest after it
pub record Starts (f : ℕ → Bool) (a m t : ℕ) (rest : List ℕ) : Type 0 where
  pub low : a ≤ t
  pub high : t < a + m
  pub is_set : f t ≡ true
  pub before : ones f a (t - a) ≡ []
  pub after : rest ≡ ones f (t + 1) (a + m - (t + 1))

first-item : (u t : ℕ) (us rest : List ℕ) → u ∷ us ≡ t ∷ rest → (u ≡ t) × (us ≡ rest)
first-item u t us rest e = (cc, cc)

starts-here : (f : ℕ → Bool) (a m t : ℕ) (rest : List ℕ) (x : Bool) → f a ≡ x
    → ((g : ones f (suc a) m ≡ t ∷ rest) → Starts f (suc a) m t rest)
    → cond x (a ∷ ones f (suc a) m) (ones f (suc a) m) ≡ t ∷ rest → Starts f a (suc m) t rest
unfolding ones
starts-here f a m t rest true h ih e =
    let both = first-item a t (ones f (suc a) m) rest e in
    let z : 0 ≡ t - a = omega (arith, both.0) in
    let y : suc a ≡ t + 1 = omega (arith, both.0) in
    let w : m ≡ a + suc m - (t + 1) = omega (arith, both.0) in
    record {
      low = omega (arith, both.0);
      high = omega (arith, both.0);
      is_set = ap f (sym both.0) ∙ h;
      before = ap (ones f a) (sym z);
      after = sym both.1 ∙ ap₂ (ones f) y w;
    }
starts-here f a m t rest false h ih e =
    let s = ih e in
    let z : t - a ≡ suc (t - suc a) = omega (arith, s.low) in
    let w : suc a + m - (t + 1) ≡ a + suc m - (t + 1) = omega arith in
    record {
      low = omega (arith, s.low);
      high = omega (arith, s.high);
      is_set = s.is_set;
      before =
          ap (ones f a) z ∙ ap (λ (x : Bool). cond x (a ∷ ones f (suc a) (t - suc a)) (ones f (suc a) (t - suc a))) h ∙ s.before;
      after = s.after ∙ ap (ones f (t + 1)) w;
    }

starts : (f : ℕ → Bool) (a m t : ℕ) (rest : List ℕ) → ones f a m ≡ t ∷ rest → Starts f a m t rest
unfolding ones
starts f a zero t rest e = absurd (cons-ne-nil t rest (sym e))
starts f a (suc m) t rest e = starts-here f a m t rest (f a) refl (λ g. starts f (suc a) m t rest g) e

-- a range with none
empty-here : (f : ℕ → Bool) (a m : ℕ) (x : Bool) → f a ≡ x → cond x (a ∷ ones f (suc a) m) (ones f (suc a) m) ≡ []
    → (f a ≡ false) × (ones f (suc a) m ≡ [])
empty-here f a m true h e = absurd (cons-ne-nil a (ones f (suc a) m) e)
empty-here f a m false h e = (h, e)

pub none-set : (f : ℕ → Bool) (a m : ℕ) → ones f a m ≡ [] → (j : ℕ) → a ≤ j → j < a + m → f j ≡ false
unfolding ones
none-set f a zero e j p q = absurd (omega arith)
none-set f a (suc m) e j p q =
    let both = empty-here f a m (f a) refl e in ⊎_elim
    (λ (h : a < j). none-set f (suc a) m both.1 j (omega arith) (omega arith))
    (λ (h : j ≤ a). let z : j ≡ a = omega arith in ap f z ∙ both.0)
    (cases_lt a j)

-- ---- around a cursor

abbrev pub around : (ℕ → Bool) → ℕ → ℕ → List ℕ
around f n c = ones f c (n - c) ++ ones f 0 c

-- the trucks in their order are those before the cursor and those at or after it
in_order_lem : (f : ℕ → Bool) (n c : ℕ) → c ≤ n → ones f 0 n ≡ ones f 0 c ++ ones f c (n - c)
in_order_lem f n c h =
    let z : n ≡ c + (n - c) = omega arith in
    let e : 0 + c ≡ c = omega arith in
    ap (ones f 0) z ∙ ones-add f 0 c (n - c) ∙ ap (λ (x : ℕ). ones f 0 c ++ ones f x (n - c)) e

head_around : (X Y : List ℕ) → or_else (head_of X) (head_of (Y ++ X)) ≡ head_of (X ++ Y)
head_around [] Y = ap head_of (append-nil Y)
head_around (t ∷ X) Y = refl

-- the first of them is the first at or after the cursor, else the first of all
pub around_first : (f : ℕ → Bool) (n c : ℕ) → c ≤ n → or_else (head_of (ones f c (n - c))) (head_of (ones f 0 n)) ≡ head_of (around f n c)
around_first f n c h =
    ap (λ (l : List ℕ). or_else (head_of (ones f c (n - c))) (head_of l)) (in_order_lem f n c h)
    ∙ head_around (ones f c (n - c)) (ones f 0 c)

one_set : (f : ℕ → Bool) (u : ℕ) → f u ≡ true → ones f u 1 ≡ u ∷ []
unfolding ones
one_set f u h = ap (λ (x : Bool). cond x (u ∷ []) []) h

-- those up to and with t, if none is between c and t
up_to : (f : ℕ → Bool) (c t : ℕ) → c ≤ t → ones f c (t - c) ≡ [] → f t ≡ true → ones f 0 (t + 1) ≡ ones f 0 c ++ (t ∷ [])
up_to f c t low e h =
    let z : t + 1 ≡ c + (t - c + 1) = omega arith in
    let y : 0 + c ≡ c = omega arith in
    let w : c + (t - c) ≡ t = omega arith in
    ap (ones f 0) z ∙ ones-add f 0 c (t - c + 1)
    ∙ ap (λ (l : List ℕ). ones f 0 c ++ l)
    (ap (λ (x : ℕ). ones f x (t - c + 1)) y ∙ ones-add f c (t - c) 1
    ∙ ap₂ (λ (s r : List ℕ). s ++ r) e (ap (λ (x : ℕ). ones f x 1) w ∙ one_set f t h))

-- around the cursor one past t are the others, and then t
pub record Turned (f : ℕ → Bool) (n c t : ℕ) (rest : List ℕ) : Type 0 where
  pub below : t < n
  pub is_set : f t ≡ true
  pub turned : around f n (t + 1) ≡ rest ++ (t ∷ [])
  pub ahead : (j : ℕ) → c ≤ j → j < t → f j ≡ false
  pub after : t < c → (j : ℕ) → c ≤ j → j < n → f j ≡ false
  pub least : t < c → (j : ℕ) → j < t → f j ≡ false

turn-ahead : (f : ℕ → Bool) (n c t : ℕ) (us rest : List ℕ) → c ≤ n → Starts f c (n - c) t us → us ++ ones f 0 c ≡ rest → Turned f n c t rest
turn-ahead f n c t us rest h s e =
    let z : c + (n - c) - (t + 1) ≡ n - (t + 1) = omega arith in
    record {
      below = omega (arith, s.high);
      is_set = s.is_set;
      turned =
          ap₂ (λ (a b : List ℕ). a ++ b) (sym (s.after ∙ ap (ones f (t + 1)) z)) (up_to f c t s.low s.before s.is_set)
          ∙ sym (append_assoc us (ones f 0 c) (t ∷ [])) ∙ ap (λ (l : List ℕ). l ++ (t ∷ [])) e;
      ahead = λ j p q. none-set f c (t - c) s.before j p (omega arith);
      after = λ b j p q. absurd (omega (arith, s.low));
      least = λ b j q. absurd (omega (arith, s.low));
    }

turn-after : (f : ℕ → Bool) (n c t : ℕ) (rest : List ℕ) → c ≤ n → ones f c (n - c) ≡ [] → Starts f 0 c t rest → Turned f n c t rest
unfolding ones
turn-after f n c t rest h e s =
    let z : n - (t + 1) ≡ c - (t + 1) + (n - c) = omega (arith, s.high) in
    let y : t + 1 + (c - (t + 1)) ≡ c = omega (arith, s.high) in
    let w : 0 + c - (t + 1) ≡ c - (t + 1) = omega arith in
    let v : t - 0 ≡ t = omega arith in
    let front : ones f 0 t ≡ [] = ap (ones f 0) (sym v) ∙ s.before in
    record {
      below = omega (arith, s.high);
      is_set = s.is_set;
      turned =
          ap₂ (λ (a b : List ℕ). a ++ b)
          (ap (ones f (t + 1)) z ∙ ones-add f (t + 1) (c - (t + 1)) (n - c)
          ∙ ap₂ (λ (a b : List ℕ). a ++ b) (sym (s.after ∙ ap (ones f (t + 1)) w)) (ap (λ (x : ℕ). ones f x (n - c)) y ∙ e)
          ∙ append-nil rest)
          (up_to f 0 t (omega arith) s.before s.is_set);
      ahead = λ j p q. absurd (omega (arith, s.high));
      after = λ b j p q. none-set f c (n - c) e j p (omega arith);
      least = λ b j q. none-set f 0 t front j (omega arith) (omega arith);
    }

turn_by : (f : ℕ → Bool) (n c t : ℕ) (rest : List ℕ) → c ≤ n → (X : List ℕ) → ones f c (n - c) ≡ X → X ++ ones f 0 c ≡ t ∷ rest
    → Turned f n c t rest
turn_by f n c t rest h [] g e = turn-after f n c t rest h g (starts f 0 c t rest e)
turn_by f n c t rest h (u ∷ us) g e =
    let both = first-item u t (us ++ ones f 0 c) rest e in
    turn-ahead f n c t us rest h (starts f c (n - c) t us (g ∙ ap (λ (x : ℕ). x ∷ us) both.0)) both.1

pub turn : (f : ℕ → Bool) (n c t : ℕ) (rest : List ℕ) → c ≤ n → around f n c ≡ t ∷ rest → Turned f n c t rest
turn f n c t rest h e = turn_by f n c t rest h (ones f c (n - c)) refl e

pub none_around : (f : ℕ → Bool) (n c : ℕ) → c ≤ n → around f n c ≡ [] → (j : ℕ) → j < n → f j ≡ false
none_around f n c h e j q =
    let both : (ones f c (n - c) ≡ []) × (ones f 0 c ≡ []) = append-eq-nil_iff.0 e in ⊎_elim
    (λ (b : j < c). none-set f 0 c both.1 j (omega arith) (omega arith))
    (λ (b : c ≤ j). none-set f c (n - c) both.0 j b (omega arith))
    (cases_lt j c)

-- ---- how many, and how many times

one_more : (f : ℕ → Bool) (n : ℕ) (x : Bool) (s : List ℕ) → length (s ++ cond x (n ∷ []) []) ≡ cond x (suc (length s)) (length s)
one_more f n true s = length-append s (n ∷ []) ∙ (let z : length s + 1 ≡ suc (length s) = omega arith in z)
one_more f n false s = ap length (append-nil s)

ones_many : (f : ℕ → Bool) (n : ℕ) → length (ones f 0 n) ≡ many_below f n
unfolding ones many_below
ones_many f zero = refl
ones_many f (suc n) =
    let z : suc n ≡ n + 1 = omega arith in
    let e : 0 + n ≡ n = omega arith in
    ap (λ (x : ℕ). length (ones f 0 x)) z ∙ ap length (ones-add f 0 n 1 ∙ ap (λ (x : ℕ). ones f 0 n ++ ones f x 1) e)
    ∙ one_more f n (f n) (ones f 0 n) ∙ ap (λ (k : ℕ). cond (f n) (suc k) k) (ones_many f n)

pub around_many : (f : ℕ → Bool) (n c : ℕ) → c ≤ n → length (around f n c) ≡ many_below f n
around_many f n c h =
    let turned : length (ones f c (n - c)) + length (ones f 0 c) ≡ length (ones f 0 c) + length (ones f c (n - c)) = omega arith in
    length-append (ones f c (n - c)) (ones f 0 c) ∙ turned
    ∙ sym (ap length (in_order_lem f n c h) ∙ length-append (ones f 0 c) (ones f c (n - c))) ∙ ones_many f n

times-append : (t : ℕ) (a b : List ℕ) → times t (a ++ b) ≡ times t a + times t b
unfolding times
times-append t [] b = let z : times t b ≡ 0 + times t b = omega arith in z
times-append t (u ∷ a) b = by-test (eqb u t) (times-append t a b)
  where
    by-test : (x : Bool) → times t (a ++ b) ≡ times t a + times t b
        → cond x (suc (times t (a ++ b))) (times t (a ++ b)) ≡ cond x (suc (times t a)) (times t a) + times t b
    by-test true h = omega arith
    by-test false h = h

other : (t u : ℕ) (x : Bool) (s : List ℕ) → (u ≡ t → ⊥) → times t (cond x (u ∷ s) s) ≡ times t s
unfolding times
other t u true s h = ap (λ (b : Bool). cond b (suc (times t s)) (times t s)) (ne_eqb u t h)
other t u false s h = refl

times-low : (f : ℕ → Bool) (a m t : ℕ) → t < a → times t (ones f a m) ≡ 0
unfolding ones times
times-low f a zero t h = refl
times-low f a (suc m) t h = other t a (f a) (ones f (suc a) m) (λ e. omega arith) ∙ times-low f (suc a) m t (omega arith)

times-high : (f : ℕ → Bool) (a m t : ℕ) → a + m ≤ t → times t (ones f a m) ≡ 0
unfolding ones times
times-high f a zero t h = refl
times-high f a (suc m) t h = other t a (f a) (ones f (suc a) m) (λ e. omega arith) ∙ times-high f (suc a) m t (omega arith)

once-here : (t : ℕ) (x : Bool) (s : List ℕ) → times t s ≡ 0 → times t (cond x (t ∷ s) s) ≡ cond x 1 0
unfolding times
once-here t true s h = ap (λ (b : Bool). cond b (suc (times t s)) (times t s)) (eq-eqb t t refl) ∙ ap suc h
once-here t false s h = h

times-in : (f : ℕ → Bool) (a m t : ℕ) → a ≤ t → t < a + m → times t (ones f a m) ≡ cond (f t) 1 0
unfolding ones
times-in f a zero t p q = absurd (omega arith)
times-in f a (suc m) t p q = ⊎_elim
    (λ (h : a < t). other t a (f a) (ones f (suc a) m) (λ e. omega arith) ∙ times-in f (suc a) m t (omega arith) (omega arith))
    (λ (h : t ≤ a).
    let z : a ≡ t = omega arith in
    ap (λ (x : ℕ). times t (cond (f x) (x ∷ ones f (suc x) m) (ones f (suc x) m))) z
    ∙ once-here t (f t) (ones f (suc t) m) (times-low f (suc t) m t (omega arith)))
    (cases_lt a t)

-- each truck below n for which f is true, once
pub around_times : (f : ℕ → Bool) (n c t : ℕ) → c ≤ n → times t (around f n c) ≡ cond (ltb t n && f t) 1 0
around_times f n c t h = times-append t (ones f c (n - c)) (ones f 0 c) ∙ ⊎_elim
    (λ (b : t < n). ⊎_elim
    (λ (d : t < c).
    ap₂ (λ (x y : ℕ). x + y) (times-low f c (n - c) t d) (times-in f 0 c t (omega arith) (omega arith))
    ∙ (let z : 0 + cond (f t) 1 0 ≡ cond (f t) 1 0 = omega arith in z) ∙ ap (λ (x : Bool). cond (x && f t) 1 0) (sym (lt-ltb t n b)))
    (λ (d : c ≤ t).
    ap₂ (λ (x y : ℕ). x + y) (times-in f c (n - c) t d (omega arith)) (times-high f 0 c t (omega arith))
    ∙ (let z : cond (f t) 1 0 + 0 ≡ cond (f t) 1 0 = omega arith in z) ∙ ap (λ (x : Bool). cond (x && f t) 1 0) (sym (lt-ltb t n b)))
    (cases_lt t c))
    (λ (b : n ≤ t).
    ap₂ (λ (x y : ℕ). x + y) (times-high f c (n - c) t (omega arith)) (times-high f 0 c t (omega arith))
    ∙ ap (λ (x : Bool). cond (x && f t) 1 0) (sym (le-ltb t n b)))
    (cases_lt t n)
