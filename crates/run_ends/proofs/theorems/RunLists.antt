-- The theorem on lists, proved by recursion on the list.
use Rattle.std.proofs.Common.{◌≡◌, ℕ, zero, suc, ◌+◌, ◌<◌, ◌≤◌, ℤ, pos, Bool, true, false, not, cond, ◌⊎◌, inl, inr, List, [], ◌∷◌}
use Rattle.std.proofs.Common.{length, map, get_or, refl, sym, ap, ap₂, ◌∙◌, arith}
use Rattle.std.specs.Bool.{beq}
use Rattle.std.proofs.lemmas.Bool.{and_parts, cases_lt, true≢false}
use borrow.Author.Tests.{le-ltb, lt-ltb, le-leb, leb-true}
use Rattle.run_ends.specs.Read.{flag_at, flags_from, flags_read}
use Rattle.run_ends.specs.Rules.{end_of, ends_hold, ends_of, rising_to}
use Rattle.run_ends.specs.Write.{ends_from, run_flags, written_ends}
use Rattle.run_ends.proofs.read.FlagLaws.{flag-first, flag-later}
use Rattle.run_ends.proofs.statements.RunLists.{RunLists}
use Rattle.run_ends.proofs.write.RunFlags.{paired-from}

-- ---- read back

-- a run that ends at p or before is in no position from p on
flags-later : (e : ℤ) (es : List ℤ) (v : Bool) (vs : List Bool) (p n : ℕ) → end_of e ≤ p
    → flags_from (e ∷ es) (v ∷ vs) p n ≡ flags_from es vs p n
unfolding flags_from
flags-later e es v vs p zero h = refl
flags-later e es v vs p (suc n) h =
    ap₂ (λ (x : Bool) (l : List Bool). x ∷ l) (flag-later e es v vs p (le-ltb p (end_of e) h))
    (flags-later e es v vs (suc p) n (omega arith))

first : (p q : ℕ) (x : Bool) (ends : List ℕ) (flags : List Bool) → q ≤ p → flag_at (map pos (suc p ∷ ends)) (x ∷ flags) q ≡ x
first p q x ends flags h = flag-first (pos (suc p)) (map pos ends) x flags q (lt-ltb q (suc p) (omega arith))

-- the first flag is that of all positions before the first end
head-flag : (p q : ℕ) (x : Bool) (l : List Bool) → q ≤ p → flag_at (map pos (ends_from p (x ∷ l))) (run_flags (x ∷ l)) q ≡ x
unfolding ends_from run_flags
head-flag p q x [] h = first p q x [] [] h
head-flag p q true (true ∷ l) h = head-flag (suc p) q true l (omega arith)
head-flag p q true (false ∷ l) h = first p q true (ends_from (suc p) (false ∷ l)) (run_flags (false ∷ l)) h
head-flag p q false (true ∷ l) h = first p q false (ends_from (suc p) (true ∷ l)) (run_flags (true ∷ l)) h
head-flag p q false (false ∷ l) h = head-flag (suc p) q false l (omega arith)

back-from : (p : ℕ) (l : List Bool) → flags_from (map pos (ends_from p l)) (run_flags l) p (length l) ≡ l
unfolding flags_from ends_from run_flags
back-from p [] = refl
back-from p (x ∷ []) = ap (λ (y : Bool). y ∷ []) (head-flag p p x [] (omega arith))
back-from p (x ∷ y ∷ l) =
    ap₂ (λ (z : Bool) (m : List Bool). z ∷ m) (head-flag p p x (y ∷ l) (omega arith)) (by x y (back-from (suc p) (y ∷ l)))
  where
    by : (x y : Bool) → flags_from (map pos (ends_from (suc p) (y ∷ l))) (run_flags (y ∷ l)) (suc p) (length (y ∷ l)) ≡ y ∷ l
        → flags_from (map pos (ends_from p (x ∷ y ∷ l))) (run_flags (x ∷ y ∷ l)) (suc p) (length (y ∷ l)) ≡ y ∷ l
    by true true ih = ih
    by true false ih = flags-later (pos (suc p)) _ true _ (suc p) (suc (length l)) (omega arith) ∙ ih
    by false true ih = flags-later (pos (suc p)) _ false _ (suc p) (suc (length l)) (omega arith) ∙ ih
    by false false ih = ih

-- ---- the rules are kept

holds-from : (n p last : ℕ) (x : Bool) (l : List Bool) → last ≤ p → n ≡ p + suc (length l)
    → rising_to n last (ends_of (map pos (ends_from p (x ∷ l)))) ≡ true
unfolding ends_from rising_to
holds-from n p last x [] h e = rw (lt-ltb last (suc p) (omega arith)) (le-leb n (suc p) (omega arith))
holds-from n p last true (true ∷ l) h e = holds-from n (suc p) last true l (omega arith) (omega arith)
holds-from n p last true (false ∷ l) h e =
    rw (lt-ltb last (suc p) (omega arith)) (holds-from n (suc p) (suc p) false l (omega arith) (omega arith))
holds-from n p last false (true ∷ l) h e =
    rw (lt-ltb last (suc p) (omega arith)) (holds-from n (suc p) (suc p) true l (omega arith) (omega arith))
holds-from n p last false (false ∷ l) h e = holds-from n (suc p) last false l (omega arith) (omega arith)

holds-all : (l : List Bool) → ends_hold (length l) (written_ends l) ≡ true
unfolding ends_hold ends_from rising_to
holds-all [] = refl
holds-all (x ∷ l) = holds-from (suc (length l)) 0 0 x l (omega arith) (omega arith)

-- ---- the fewest runs

beq-same : (x : Bool) → beq x x ≡ true
beq-same true = refl
beq-same false = refl

-- whatever keeps the rules has at least as many runs as are written for the flags that it is read as
fewest-from : (n p last : ℕ) (ends : List ℤ) (values : List Bool) → last ≤ p → rising_to (p + n) last (ends_of ends) ≡ true
    → length values ≡ length ends → length (ends_from p (flags_from ends values p n)) ≤ length ends
unfolding ends_from flags_from rising_to
fewest-from zero p last ends values h r e = omega arith
fewest-from (suc zero) p last [] values h r e = absurd (omega (arith, leb-true (p + 1) last r))
fewest-from (suc zero) p last (x ∷ es) values h r e = omega arith
fewest-from (suc (suc m)) p last [] values h r e = absurd (omega (arith, leb-true (p + suc (suc m)) last r))
fewest-from (suc (suc m)) p last (x ∷ es) [] h r e = absurd (omega arith)
fewest-from (suc (suc m)) p last (x ∷ es) (v ∷ vs) h r e =
    let far : p + suc (suc m) ≡ suc p + suc m = omega arith in
    by (beq (flag_at (x ∷ es) (v ∷ vs) p) (flag_at (x ∷ es) (v ∷ vs) (suc p))) refl (cases_lt (suc p) (end_of x))
    (fewest-from (suc m) (suc p) last (x ∷ es) (v ∷ vs) (omega arith)
    (ap (λ (n : ℕ). rising_to n last (ends_of (x ∷ es))) (sym far) ∙ r) e)
    (λ below. fewest-from (suc m) (suc p) (end_of x) es vs below
    (ap (λ (n : ℕ). rising_to n (end_of x) (ends_of es)) (sym far) ∙ (and_parts _ _ r).1) (omega arith))
  where
    by : (t : Bool) → beq (flag_at (x ∷ es) (v ∷ vs) p) (flag_at (x ∷ es) (v ∷ vs) (suc p)) ≡ t
        → (suc p < end_of x) ⊎ (end_of x ≤ suc p)
        → length (ends_from (suc p) (flags_from (x ∷ es) (v ∷ vs) (suc p) (suc m))) ≤ suc (length es)
        → (end_of x ≤ suc p → length (ends_from (suc p) (flags_from es vs (suc p) (suc m))) ≤ length es)
        → length
        (cond t (ends_from (suc p) (flags_from (x ∷ es) (v ∷ vs) (suc p) (suc m)))
        (suc p ∷ ends_from (suc p) (flags_from (x ∷ es) (v ∷ vs) (suc p) (suc m))))
        ≤ suc (length es)
    by true q w same less = same
    by false q (inl above) same less =
        absurd (true≢false (sym (beq-same v)
        ∙ ap₂ beq (sym (flag-first x es v vs p (lt-ltb p (end_of x) (omega arith))))
        (sym (flag-first x es v vs (suc p) (lt-ltb (suc p) (end_of x) above))) ∙ q))
    by false q (inr below) same less =
        let moved = ap (λ (l : List Bool). length (ends_from (suc p) l)) (flags-later x es v vs (suc p) (suc m) below) in
        omega (arith, moved, less below)

length-ends : (l : List ℕ) → length (map pos l) ≡ length l
length-ends [] = refl
length-ends (x ∷ l) = ap suc (length-ends l)

fewest-all : (ends : List ℤ) (values : List Bool) (n : ℕ) → ends_hold n ends ≡ true → length values ≡ length ends
    → length (written_ends (flags_read ends values n)) ≤ length ends
unfolding ends_hold
fewest-all ends values n r e =
    let far : n ≡ 0 + n = omega arith in
    let least = fewest-from n 0 0 ends values (omega arith) (ap (λ (k : ℕ). rising_to k 0 (ends_of ends)) (sym far) ∙ r) e in
    omega (arith, length-ends (ends_from 0 (flags_from ends values 0 n)), least)

-- ---- where runs end

some-from : (p : ℕ) (x : Bool) (l : List Bool) → 0 < length (ends_from p (x ∷ l))
unfolding ends_from
some-from p x [] = omega arith
some-from p true (true ∷ l) = some-from (suc p) true l
some-from p true (false ∷ l) = omega arith
some-from p false (true ∷ l) = omega arith
some-from p false (false ∷ l) = some-from (suc p) false l

last-from : (p : ℕ) (x : Bool) (l : List Bool) (k m : ℕ) → length (ends_from p (x ∷ l)) ≡ suc k → m ≡ p + suc (length l)
    → get_or (ends_from p (x ∷ l)) k 0 ≡ m
unfolding ends_from
last-from p x [] zero m e q = omega arith
last-from p x [] (suc k) m e q = absurd (omega arith)
last-from p true (true ∷ l) k m e q = last-from (suc p) true l k m e (omega arith)
last-from p true (false ∷ l) zero m e q = absurd (omega (arith, some-from (suc p) false l))
last-from p true (false ∷ l) (suc k) m e q = last-from (suc p) false l k m (omega arith) (omega arith)
last-from p false (true ∷ l) zero m e q = absurd (omega (arith, some-from (suc p) true l))
last-from p false (true ∷ l) (suc k) m e q = last-from (suc p) true l k m (omega arith) (omega arith)
last-from p false (false ∷ l) k m e q = last-from (suc p) false l k m e (omega arith)

at-ends : (l : List ℕ) (k : ℕ) → get_or (map pos l) k (pos 0) ≡ pos (get_or l k 0)
at-ends [] k = refl
at-ends (x ∷ l) zero = refl
at-ends (x ∷ l) (suc k) = at-ends l k

last-all : (l : List Bool) (k : ℕ) → length (written_ends l) ≡ suc k → get_or (written_ends l) k (pos 0) ≡ pos (length l)
unfolding ends_from
last-all [] k e = absurd (omega arith)
last-all (x ∷ l) k e =
    at-ends (ends_from 0 (x ∷ l)) k
    ∙ ap pos (last-from 0 x l k (suc (length l)) (sym (length-ends (ends_from 0 (x ∷ l))) ∙ e) (omega arith))

some-all : (l : List Bool) → 0 < length l → 0 < length (written_ends l)
some-all [] h = absurd (omega arith)
some-all (x ∷ l) h = omega (arith, some-from 0 x l, length-ends (ends_from 0 (x ∷ l)))

-- end number k of a list whose first flag is at position p is j + 1 flags after p, and flag j + 1 differs from flag j
pub record Ended (p : ℕ) (l : List Bool) (k : ℕ) : Type 0 where
  pub j : ℕ
  pub at : get_or (ends_from p l) k 0 ≡ p + suc j
  pub inside : suc j < length l
  pub differs : get_or l (suc j) false ≡ not (get_or l j false)

between-from : (p : ℕ) (l : List Bool) (k : ℕ) → suc k < length (ends_from p l) → Ended p l k
unfolding ends_from
between-from p [] k h = absurd (omega arith)
between-from p (x ∷ []) k h = absurd (omega arith)
between-from p (true ∷ true ∷ l) k h =
    let b = between-from (suc p) (true ∷ l) k h in
    record { j = suc b.j; at = b.at ∙ omega arith; inside = omega (arith, b.inside); differs = b.differs }
between-from p (false ∷ false ∷ l) k h =
    let b = between-from (suc p) (false ∷ l) k h in
    record { j = suc b.j; at = b.at ∙ omega arith; inside = omega (arith, b.inside); differs = b.differs }
between-from p (true ∷ false ∷ l) zero h = record { j = 0; at = omega arith; inside = omega arith; differs = refl }
between-from p (false ∷ true ∷ l) zero h = record { j = 0; at = omega arith; inside = omega arith; differs = refl }
between-from p (true ∷ false ∷ l) (suc k) h =
    let b = between-from (suc p) (false ∷ l) k (omega arith) in
    record { j = suc b.j; at = b.at ∙ omega arith; inside = omega (arith, b.inside); differs = b.differs }
between-from p (false ∷ true ∷ l) (suc k) h =
    let b = between-from (suc p) (true ∷ l) k (omega arith) in
    record { j = suc b.j; at = b.at ∙ omega arith; inside = omega (arith, b.inside); differs = b.differs }

between-all : (l : List Bool) (k : ℕ) → suc k < length (written_ends l)
    → (p : ℕ) × ((get_or (written_ends l) k (pos 0) ≡ pos (suc p)) × ((suc p < length l)
    × (get_or l (suc p) false ≡ not (get_or l p false))))
between-all l k h =
    let b = between-from 0 l k (omega (arith, length-ends (ends_from 0 l))) in
    let e : 0 + suc b.j ≡ suc b.j = omega arith in
    (b.j, (at-ends (ends_from 0 l) k ∙ ap pos (b.at ∙ e), (b.inside, b.differs)))

no-ends : written_ends [] ≡ []
unfolding ends_from
no-ends = refl

no-flags : run_flags [] ≡ []
unfolding run_flags
no-flags = refl

pub run_lists : RunLists
run_lists =
    record {
      holds = holds-all;
      paired = paired-from 0;
      back = back-from 0;
      fewest = fewest-all;
      last = last-all;
      some = some-all;
      between = between-all;
      no_ends = no-ends;
      no_flags = no-flags;
    }
