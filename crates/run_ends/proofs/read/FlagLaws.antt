-- The flag of a position: that of the first run if its end is above the position, else that of the runs after it; and the flags in a row.
use Rattle.std.proofs.Common.{◌≡◌, refl, ap, ◌∙◌, ℕ, zero, suc, ◌+◌, ◌<◌, ◌≤◌, ℤ, Bool, true, false, cond, ◌⊎◌, inl, inr}
use Rattle.std.proofs.Common.{List, ◌∷◌, Some, None, length, get_or, ltb, arith}
use Rattle.std.proofs.lemmas.Bool.{cases_lt}
use Rattle.std.specs.List.{position_or_len}
use borrow.Author.Tests.{le-ltb, lt-ltb}
use Rattle.run_ends.specs.Read.{flag_at, flag_of_run, flags_from, flags_read, is_above}

-- ---- one position

pub flag-first : (e : ℤ) (es : List ℤ) (v : Bool) (vs : List Bool) (q : ℕ) → is_above q e ≡ true → flag_at (e ∷ es) (v ∷ vs) q ≡ v
flag-first e es v vs q h = rw h (ap (λ (t : Bool). flag_of_run (v ∷ vs) (cond t (Some 0) None)) (lt-ltb 0 (suc (length es)) (omega arith)))

later : (v : Bool) (vs : List Bool) (k n : ℕ) → (k < n) ⊎ (n ≤ k)
    → flag_of_run (v ∷ vs) (cond (ltb (1 + k) (suc n)) (Some (1 + k)) None) ≡ flag_of_run vs (cond (ltb k n) (Some k) None)
later v vs k n (inl p) =
    let e : 1 + k ≡ suc k = omega arith in
    rw (lt-ltb (1 + k) (suc n) (omega arith), lt-ltb k n p, e) refl
later v vs k n (inr p) = rw (le-ltb (1 + k) (suc n) (omega arith), le-ltb k n p) refl

pub flag-later : (e : ℤ) (es : List ℤ) (v : Bool) (vs : List Bool) (q : ℕ) → is_above q e ≡ false
    → flag_at (e ∷ es) (v ∷ vs) q ≡ flag_at es vs q
flag-later e es v vs q h = rw h (later v vs (position_or_len (is_above q) es) (length es) (cases_lt _ _))

-- ---- positions in a row

pub length-from : (ends : List ℤ) (values : List Bool) (p n : ℕ) → length (flags_from ends values p n) ≡ n
unfolding flags_from
length-from ends values p zero = refl
length-from ends values p (suc n) = ap suc (length-from ends values (suc p) n)

at-from : (ends : List ℤ) (values : List Bool) (p n j : ℕ) → j < n
    → get_or (flags_from ends values p n) j false ≡ flag_at ends values (p + j)
unfolding flags_from
at-from ends values p zero j h = absurd (omega arith)
at-from ends values p (suc n) zero h = let e : p ≡ p + 0 = omega arith in ap (flag_at ends values) e
at-from ends values p (suc n) (suc j) h =
    let e : suc p + j ≡ p + suc j = omega arith in
    at-from ends values (suc p) n j (omega arith) ∙ ap (flag_at ends values) e

-- flag p of those read is the one of position p
pub at-read : (ends : List ℤ) (values : List Bool) (n p : ℕ) → p < n → get_or (flags_read ends values n) p false ≡ flag_at ends values p
at-read ends values n p h = let e : 0 + p ≡ p = omega arith in at-from ends values 0 n p h ∙ ap (flag_at ends values) e
