-- The checks of a call, composed of lists of checks, and what follows if all pass. For every function that makes checks.
use Rattle.std.proofs.lemmas.Bool.{cases_lt, and_parts}
use mathlib.Core.Path.{◌≡◌, refl, sym, ap, ap₂, ◌∙◌, subst}
use mathlib.Core.Bool.{Bool, true, false, cond, ◌&&◌}
use mathlib.Core.List.{List, [], ◌∷◌, ◌++◌}
use Prim.Native.Nat.{ℕ, zero, suc, ◌+◌, ◌*◌, ◌/◌, ◌%◌, ◌≤◌, ◌<◌}
use native.Mathlib.Omega.{arith}
use lib.Dec.{leb, eqb}
use Rattle.std.specs.Prelude.{min}
use borrow.Author.Tests.{le-leb, lt-leb, leb-true, eq-eqb, ne_eqb}
use Rattle.masks.specs.equations.Answer.{given, refused, decided, kept}
use Rattle.masks.specs.Builder.{none_from, possible}
use Rattle.masks.specs.declared.builder.BitmapBuilder.{BitmapBuilder}
use Rattle.masks.specs.Checks.{Check, check, rank, place_in, earlier, failure, first_failed, limit, within_limit, span_checks}
use Rattle.masks.specs.Checks.{address_checks}
use mathlib.Core.Logic.{⊎_elim}

-- ---- a choice by a test whose outcome is known

pub when-le : {A : Type 0} (a b : ℕ) (x y : A) → a ≤ b → x ≡ cond (leb a b) x y
when-le a b x y h = ap (λ (t : Bool). cond t x y) (sym (le-leb a b h))

pub when-gt : {A : Type 0} (a b : ℕ) (x y : A) → b < a → y ≡ cond (leb a b) x y
when-gt a b x y h = ap (λ (t : Bool). cond t x y) (sym (lt-leb a b h))

pub when-eq : {A : Type 0} (a b : ℕ) (x y : A) → a ≡ b → x ≡ cond (eqb a b) x y
when-eq a b x y h = ap (λ (t : Bool). cond t x y) (sym (eq-eqb a b h))

pub when-ne : {A : Type 0} (a b : ℕ) (x y : A) → (a ≡ b → ⊥) → y ≡ cond (eqb a b) x y
when-ne a b x y h = ap (λ (t : Bool). cond t x y) (sym (ne_eqb a b h))

-- what holds of both choices holds of the one made
pub by-test : {A : Type 0} (P : A → Type 0) (a b : ℕ) (x y : A) → (a ≤ b → P x) → (b < a → P y) → P (cond (leb a b) x y)
by-test P a b x y p q = ⊎_elim
    (λ (h : b < a). subst P (when-gt a b x y h) (q h))
    (λ (h : a ≤ b). subst P (when-le a b x y h) (p h))
    (cases_lt b a)

-- ---- lists of checks are joined

pub earlier-none : (a : ℕ) → earlier a 0 ≡ a
unfolding earlier
earlier-none zero = refl
earlier-none (suc a) = refl

pub none-earlier : (a : ℕ) → earlier 0 a ≡ a
unfolding earlier
none-earlier a = refl

first_one : (a b : ℕ) → rank (suc a) ≤ rank (suc b) → earlier (suc a) (suc b) ≡ suc a
unfolding earlier
first_one a b h = ap (λ (t : Bool). cond t (suc a) (suc b)) (le-leb (rank (suc a)) (rank (suc b)) h)

second-one : (a b : ℕ) → rank (suc b) < rank (suc a) → earlier (suc a) (suc b) ≡ suc b
unfolding earlier
second-one a b h = ap (λ (t : Bool). cond t (suc a) (suc b)) (lt-leb (rank (suc a)) (rank (suc b)) h)

pub first-least : (a b : ℕ) → (a ≡ 0 → ⊥) → (b ≡ 0 → ⊥) → rank a ≤ rank b → earlier a b ≡ a
first-least zero b p q h = absurd (p refl)
first-least (suc a) zero p q h = absurd (q refl)
first-least (suc a) (suc b) p q h = first_one a b h

pub second-least : (a b : ℕ) → (a ≡ 0 → ⊥) → (b ≡ 0 → ⊥) → rank b < rank a → earlier a b ≡ b
second-least zero b p q h = absurd (p refl)
second-least (suc a) zero p q h = absurd (q refl)
second-least (suc a) (suc b) p q h = second-one a b h

-- `earlier` is associative
pub earlier-assoc : (a b c : ℕ) → earlier (earlier a b) c ≡ earlier a (earlier b c)
earlier-assoc zero b c = ap (λ (x : ℕ). earlier x c) (none-earlier b) ∙ sym (none-earlier (earlier b c))
earlier-assoc (suc a) zero c = ap (λ (x : ℕ). earlier x c) (earlier-none (suc a)) ∙ ap (earlier (suc a)) (sym (none-earlier c))
earlier-assoc (suc a) (suc b) zero = earlier-none (earlier (suc a) (suc b)) ∙ ap (earlier (suc a)) (sym (earlier-none (suc b)))
earlier-assoc (suc a) (suc b) (suc c) = ⊎_elim
    (λ (h : rank (suc b) < rank (suc a)). ap (λ (x : ℕ). earlier x (suc c)) (second-one a b h) ∙ ⊎_elim
    (λ (k : rank (suc c) < rank (suc b)). second-one b c k ∙ sym (ap (earlier (suc a)) (second-one b c k) ∙ second-one a c (omega arith)))
    (λ (k : rank (suc b) ≤ rank (suc c)). first_one b c k ∙ sym (ap (earlier (suc a)) (first_one b c k) ∙ second-one a b h))
    (cases_lt (rank (suc c)) (rank (suc b))))
    (λ (h : rank (suc a) ≤ rank (suc b)). ap (λ (x : ℕ). earlier x (suc c)) (first_one a b h) ∙ ⊎_elim
    (λ (k : rank (suc c) < rank (suc b)). sym (ap (earlier (suc a)) (second-one b c k)))
    (λ (k : rank (suc b) ≤ rank (suc c)). first_one a c (omega arith) ∙ sym (ap (earlier (suc a)) (first_one b c k) ∙ first_one a b h))
    (cases_lt (rank (suc c)) (rank (suc b))))
    (cases_lt (rank (suc b)) (rank (suc a)))

-- the number of two lists joined is the earlier of their numbers
pub failed-append : (a b : List Check) → first_failed (a ++ b) ≡ earlier (first_failed a) (first_failed b)
unfolding first_failed
failed-append [] b = sym (none-earlier (first_failed b))
failed-append (c ∷ a) b = ap (earlier (failure c)) (failed-append a b) ∙ sym (earlier-assoc (failure c) (first_failed a) (first_failed b))

-- how code composes two lists of checks: it takes the earlier of their numbers; an attribute holds only a name with no hyphen
pub two_pieces : (a b r : ℕ) (A B : List Check) → r ≡ earlier a b → a ≡ first_failed A → b ≡ first_failed B → r ≡ first_failed (A ++ B)
two_pieces a b r A B e p q = e ∙ ap₂ earlier p q ∙ sym (failed-append A B)

pub one-check : (r n : ℕ) (t u : Bool) → r ≡ cond t 0 n → t ≡ u → r ≡ first_failed (check n u ∷ [])
unfolding first_failed
one-check r n t u e h = e ∙ ap (λ (x : Bool). cond x 0 n) h ∙ sym (earlier-none (cond u 0 n))

-- how code composes one check and the list after it
pub check-before : (r n a b : ℕ) (t u : Bool) (cs : List Check) → r ≡ earlier a b → a ≡ cond t 0 n → t ≡ u → b ≡ first_failed cs
    → r ≡ first_failed (check n u ∷ cs)
unfolding first_failed
check-before r n a b t u cs e p h q = e ∙ ap₂ earlier (p ∙ ap (λ (x : Bool). cond x 0 n) h) q

-- ---- all checks pass

pub passed-left : (a b : ℕ) → earlier a b ≡ 0 → a ≡ 0
unfolding earlier
passed-left zero b e = refl
passed-left (suc a) zero e = e
passed-left (suc a) (suc b) e = absurd (never (leb (rank (suc a)) (rank (suc b))) e)
  where
    never : (t : Bool) → cond t (suc a) (suc b) ≡ 0 → ⊥
    never true e = omega arith
    never false e = omega arith

pub passed-right : (a b : ℕ) → earlier a b ≡ 0 → b ≡ 0
passed-right a b e = sym (none-earlier b) ∙ ap (λ (x : ℕ). earlier x b) (sym (passed-left a b e)) ∙ e

-- the answer of a call: refused if the number is not 0, given if it is
pub is-refused : {S A : Type 0} (n m : ℕ) (s : S) (a : A) → n ≡ m → (n ≡ 0 → ⊥) → refused n s ≡ decided m s a
unfolding decided
is-refused zero m s a e h = absurd (h refl)
is-refused (suc n) m s a e h = ap (λ (x : ℕ). decided x s a) e

pub is-given : {S A : Type 0} (n m : ℕ) (s : S) (a : A) → n ≡ m → n ≡ 0 → given a ≡ decided m s a
unfolding decided
is-given n m s a e h = ap (λ (x : ℕ). decided x s a) (sym h ∙ e)

-- a lent buffer: unchanged if the number is not 0, else new
pub is-kept : {A : Type 0} (n m : ℕ) (new old : A) → n ≡ m → (n ≡ 0 → ⊥) → old ≡ kept m new old
unfolding kept
is-kept zero m new old e h = absurd (h refl)
is-kept (suc n) m new old e h = ap (λ (x : ℕ). kept x new old) e

pub is-new : {A : Type 0} (n m : ℕ) (new old : A) → n ≡ m → n ≡ 0 → new ≡ kept m new old
unfolding kept
is-new n m new old e h = ap (λ (x : ℕ). kept x new old) (sym h ∙ e)

-- a check whose number did not come out holds
pub passed-one : (n : ℕ) (t : Bool) → cond t 0 (suc n) ≡ 0 → t ≡ true
passed-one n true e = refl
passed-one n false e = absurd (omega arith)

-- if a list passes, its first check holds, and the list after it passes
pub first-allowed : (n : ℕ) (t : Bool) (cs : List Check) → first_failed (check (suc n) t ∷ cs) ≡ 0 → t ≡ true
unfolding first_failed
first-allowed n t cs e = passed-one n t (passed-left (cond t 0 (suc n)) (first_failed cs) e)

pub rest-allowed : (c : Check) (cs : List Check) → first_failed (c ∷ cs) ≡ 0 → first_failed cs ≡ 0
unfolding first_failed
rest-allowed c cs e = passed-right (failure c) (first_failed cs) e

-- what follows if the checks of a span pass
pub record SpanAllowed (start n size : ℕ) : Type 0 where
  pub starts : start ≤ limit
  pub short : n ≤ limit
  pub inside : start + n ≤ 8 * size

pub span-allowed : (start n size : ℕ) → first_failed (span_checks start n size) ≡ 0 → SpanAllowed start n size
unfolding first_failed span_checks
span-allowed start n size e =
    let one =
    passed-left (failure (within_limit start))
    (earlier (failure (within_limit n)) (earlier (failure (check 2 (leb (start + n) (8 * size)))) 0)) e in
    let rest =
    passed-right (failure (within_limit start))
    (earlier (failure (within_limit n)) (earlier (failure (check 2 (leb (start + n) (8 * size)))) 0)) e in
    let two = passed-left (failure (within_limit n)) (earlier (failure (check 2 (leb (start + n) (8 * size)))) 0) rest in
    let three = passed-left (failure (check 2 (leb (start + n) (8 * size)))) 0
    (passed-right (failure (within_limit n)) (earlier (failure (check 2 (leb (start + n) (8 * size)))) 0) rest) in
    record {
      starts = leb-true start limit (passed-one 0 (leb start limit) one);
      short = leb-true n limit (passed-one 0 (leb n limit) two);
      inside = leb-true (start + n) (8 * size) (passed-one 1 (leb (start + n) (8 * size)) three);
    }

-- a list of one check that passes: the check holds
pub check-allowed : (n : ℕ) (t : Bool) → first_failed (check (suc n) t ∷ []) ≡ 0 → t ≡ true
unfolding first_failed
check-allowed n t e = passed-one n t (sym (earlier-none (cond t 0 (suc n))) ∙ e)

pub address_allowed : (address : ℕ) → first_failed (address_checks address) ≡ 0 → address ≤ 7
unfolding address_checks
address_allowed address e = leb-true address 7 (check-allowed 7 (leb address 7) e)

-- if two lists joined pass, each of them passes
pub both_left : (A B : List Check) → first_failed (A ++ B) ≡ 0 → first_failed A ≡ 0
both_left A B e = passed-left (first_failed A) (first_failed B) (sym (failed-append A B) ∙ e)

pub both_right : (A B : List Check) → first_failed (A ++ B) ≡ 0 → first_failed B ≡ 0
both_right A B e = passed-right (first_failed A) (first_failed B) (sym (failed-append A B) ∙ e)

-- after checks that pass, the number is that of the checks after them
pub passed-before : (A B : List Check) (r n : ℕ) → n ≡ first_failed A → n ≡ 0 → r ≡ first_failed B → r ≡ first_failed (A ++ B)
passed-before A B r n p z q =
    q ∙ sym (none-earlier (first_failed B)) ∙ ap (λ (x : ℕ). earlier x (first_failed B)) (sym z ∙ p) ∙ sym (failed-append A B)

-- the number if the last check is made after the others pass
pub last_made : (cs : List Check) (n k : ℕ) (t : Bool) → n ≡ first_failed cs → n ≡ 0
    → cond t 0 (suc k) ≡ first_failed (cs ++ (check (suc k) t ∷ []))
unfolding first_failed
last_made cs n k t p z = passed-before cs (check (suc k) t ∷ []) (cond t 0 (suc k)) n p z (sym (earlier-none (cond t 0 (suc k))))

last-decided : {S A : Type 0} (cs : List Check) (n k : ℕ) (t x : Bool) (s : S) (a : A) → n ≡ first_failed cs → n ≡ 0 → t ≡ x
    → decided (cond x 0 (suc k)) s a ≡ decided (first_failed (cs ++ (check (suc k) t ∷ []))) s a
last-decided cs n k t x s a p z e = ap (λ (m : ℕ). decided m s a) (ap (λ (y : Bool). cond y 0 (suc k)) (sym e) ∙ last_made cs n k t p z)

pub last-refused : {S A : Type 0} (cs : List Check) (n k : ℕ) (t : Bool) (s : S) (a : A) → n ≡ first_failed cs → n ≡ 0 → t ≡ false
    → refused (suc k) s ≡ decided (first_failed (cs ++ (check (suc k) t ∷ []))) s a
unfolding decided
last-refused cs n k t s a p z e = last-decided cs n k t false s a p z e

-- ---- a check that is made only if the others pass: all of them come before it in the order

-- whether all numbers of a list come before k in the order
abbrev pub before : ℕ → List Check → Bool
before k [] = true
before k (c ∷ cs) = leb (rank c.number) (rank k) && before k cs

-- the code's tests of three parts, one after another: the value of the first two, then that of the third
pub both-tested : (v r x y : Bool) → r ≡ x → r ≡ true → v ≡ y → (x && y) ≡ v
both-tested v r x y e h p = rw (sym e ∙ h) (sym p)

pub first-tested : (v r x y : Bool) → r ≡ x → r ≡ false → v ≡ r → (x && y) ≡ v
first-tested v r x y e h p = rw (sym e ∙ h) (sym (p ∙ h))

pub third-decides : (x y z : Bool) → (x && y) ≡ true → z ≡ (x && (y && z))
third-decides true true z h = refl
third-decides true false z h = absurd (let n : ◌≡◌ {A = ℕ} 0 1 = cc h in omega arith)
third-decides false y z h = absurd (let n : ◌≡◌ {A = ℕ} 0 1 = cc h in omega arith)

first-decide : (v x y z : Bool) → v ≡ (x && y) → v ≡ false → v ≡ (x && (y && z))
first-decide v true true z e h = absurd (let n : ◌≡◌ {A = ℕ} 0 1 = cc (e, h) in omega arith)
first-decide v true false z e h = e
first-decide v false y z e h = e

pub possible-not : (b : BitmapBuilder) (size : ℕ) (v : Bool) → v ≡ (none_from b.word (b.length % 64) && leb b.ones (64 * (b.length / 64)))
    → v ≡ false → v ≡ possible b size
unfolding possible
possible-not b size v e h =
    first-decide v (none_from b.word (b.length % 64)) (leb b.ones (64 * (b.length / 64))) (leb (8 * (b.length / 64)) size) e h

-- the checks of a span: if start and length are within the limit, the number is that of check 2; else it is 1
span-number : (a b t : Bool) → a ≡ true → b ≡ true → cond t 0 2 ≡ earlier (cond a 0 1) (earlier (cond b 0 1) (earlier (cond t 0 2) 0))
unfolding earlier rank place_in
span-number true true true h k = refl
span-number true true false h k = refl
span-number true false t h k = absurd (let z : ◌≡◌ {A = ℕ} 0 1 = cc k in omega arith)
span-number false b t h k = absurd (let z : ◌≡◌ {A = ℕ} 0 1 = cc h in omega arith)

over-number : (a b t : Bool) → (a && b) ≡ false → 1 ≡ earlier (cond a 0 1) (earlier (cond b 0 1) (earlier (cond t 0 2) 0))
unfolding earlier rank place_in
over-number true true t h = absurd (let z : ◌≡◌ {A = ℕ} 0 1 = cc h in omega arith)
over-number true false true h = refl
over-number true false false h = refl
over-number false true true h = refl
over-number false true false h = refl
over-number false false true h = refl
over-number false false false h = refl

pub span-within : (start n size r : ℕ) (t : Bool) → start ≤ limit → n ≤ limit → r ≡ cond t 0 2 → t ≡ leb (start + n) (8 * size)
    → r ≡ first_failed (span_checks start n size)
unfolding first_failed span_checks
span-within start n size r t h k p q =
    p ∙ ap (λ (z : Bool). cond z 0 2) q
    ∙ span-number (leb start limit) (leb n limit) (leb (start + n) (8 * size)) (le-leb start limit h) (le-leb n limit k)

pub span-over : (start n size : ℕ) → (leb start limit && leb n limit) ≡ false → 1 ≡ first_failed (span_checks start n size)
unfolding first_failed span_checks
span-over start n size h = over-number (leb start limit) (leb n limit) (leb (start + n) (8 * size)) h

pub span-refused : (start n size r : ℕ) (t : Bool) → r ≡ cond t 0 1 → (r ≡ 0 → ⊥) → t ≡ (leb start limit && leb n limit)
    → r ≡ first_failed (span_checks start n size)
span-refused start n size r true p z e = absurd (z p)
span-refused start n size r false p z e = p ∙ span-over start n size (sym e)

earlier-ranked : (a b k : ℕ) → ((a ≡ 0 → ⊥) → rank a ≤ k) → ((b ≡ 0 → ⊥) → rank b ≤ k) → (earlier a b ≡ 0 → ⊥) → rank (earlier a b) ≤ k
unfolding earlier
earlier-ranked zero b k h i n = i n
earlier-ranked (suc a) zero k h i n = h n
earlier-ranked (suc a) (suc b) k h i n =
    by-test (λ (x : ℕ). rank x ≤ k) (rank (suc a)) (rank (suc b)) (suc a) (suc b) (λ _. h (λ e. omega arith)) (λ _. i (λ e. omega arith))

failure-ranked : (c : Check) (k : ℕ) → rank c.number ≤ k → (failure c ≡ 0 → ⊥) → rank (failure c) ≤ k
failure-ranked c k h n = go c.holds n
  where
    go : (t : Bool) → (cond t 0 c.number ≡ 0 → ⊥) → rank (cond t 0 c.number) ≤ k
    go true m = absurd (m refl)
    go false m = h

pub failed-ranked : (cs : List Check) (k : ℕ) → before k cs ≡ true → (first_failed cs ≡ 0 → ⊥) → rank (first_failed cs) ≤ rank k
unfolding first_failed
failed-ranked [] k e n = absurd (n refl)
failed-ranked (c ∷ cs) k e n =
    earlier-ranked (failure c) (first_failed cs) (rank k)
    (failure-ranked c (rank k) (leb-true (rank c.number) (rank k) (and_parts _ _ e).0))
    (failed-ranked cs k (and_parts _ _ e).1) n

-- if one of the checks that come first fails, its number is the number of all: the last check need not be made
pub first-number : (cs : List Check) (n k : ℕ) (t : Bool) → before (suc k) cs ≡ true → n ≡ first_failed cs → (n ≡ 0 → ⊥)
    → n ≡ first_failed (cs ++ (check (suc k) t ∷ []))
first-number cs n k t b p z = p ∙ sym (failed-append cs (check (suc k) t ∷ []) ∙ ap (earlier (first_failed cs)) (single t) ∙ keeps t)
  where
    single : (t : Bool) → first_failed (check (suc k) t ∷ []) ≡ cond t 0 (suc k)
    single t = sym (one-check (cond t 0 (suc k)) (suc k) t t refl refl)

    keeps : (t : Bool) → earlier (first_failed cs) (cond t 0 (suc k)) ≡ first_failed cs
    keeps true = earlier-none (first_failed cs)
    keeps false = first-least (first_failed cs) (suc k) (λ e. z (p ∙ e)) (λ e. omega arith) (failed-ranked cs (suc k) b (λ e. z (p ∙ e)))

-- comparing the words of n flags with the words of an output equals comparing the bytes
pub words-test : (n size : ℕ) → leb ((n + 63) / 64) (size / 8) ≡ leb (8 * ((n + 63) / 64)) size
words-test n size = ⊎_elim
    (λ (h : size < 8 * ((n + 63) / 64)). lt-leb ((n + 63) / 64) (size / 8) (omega arith) ∙ sym (lt-leb (8 * ((n + 63) / 64)) size h))
    (λ (h : 8 * ((n + 63) / 64) ≤ size). le-leb ((n + 63) / 64) (size / 8) (omega arith) ∙ sym (le-leb (8 * ((n + 63) / 64)) size h))
    (cases_lt size (8 * ((n + 63) / 64)))

pub output-test : (n size k : ℕ) → k ≡ n / 64 + min 1 (n % 64) → leb k (size / 8) ≡ leb (8 * ((n + 63) / 64)) size
output-test n size k d = let e : k ≡ (n + 63) / 64 = omega arith in ap (λ (x : ℕ). leb x (size / 8)) e ∙ words-test n size
