-- The early exit of a `?`: the number of the call there, and what holds after it. Also: the order of the refusals is that of their numbers.
use Rattle.std.proofs.Common.{◌≡◌, refl, ℕ, zero, suc, ◌<◌, Bool, true, false, List, [], ◌∷◌, length, get_or, Result, Ok, Err}
use Rattle.std.specs.Prelude.{◌&&◌, eqb}
use Rattle.std.specs.Result.{IsErrAnd, is_ok}
use Rattle.std.proofs.lemmas.Result.{err_from_is_err_and}
use Rattle.std.specs.Ordering.{ord_min}
use Rattle.std.proofs.lemmas.Bool.{and_parts}
use mathlib.Core.Path.{sym, ap, ◌∙◌}
use native.Mathlib.Omega.{arith}
use borrow.Author.Tests.{eqb-true}
use Rattle.masks.specs.Checks.{earlier, rank, place_in}
use Rattle.masks.specs.Refusal.{failure_back, failure_of, number}
use Rattle.masks.specs.declared.refusal.Refusal.{Refusal}
use Rattle.masks.specs.declared.refusal.Refusal.TheVariants.{AboveLimit, OutsideBytes, BrokenRunEnds, FalseCount, SerialConflict}
use Rattle.masks.specs.declared.refusal.Refusal.TheVariants.{ImpossibleBuilder, UnequalLengths, NotAGrid, OutsideMask, CountNotOfSlice}
use Rattle.masks.specs.declared.refusal.Refusal.TheVariants.{AddressRemainder, OutputTooSmall}
use Rattle.masks.specs.declared.refusal.Refused.{Refused}
use Rattle.masks.specs.contracts.refusal.RefusalOrd.TheImpl.{cmp-value}

-- ---- what holds of each refusal: the lines for each are written from include/refusals.txt

abbrev refusals : List Refusal
refusals =
    AboveLimit
    ∷ OutsideBytes
    ∷ BrokenRunEnds
    ∷ FalseCount
    ∷ SerialConflict
    ∷ ImpossibleBuilder
    ∷ UnequalLengths
    ∷ NotAGrid
    ∷ OutsideMask
    ∷ CountNotOfSlice
    ∷ AddressRemainder
    ∷ OutputTooSmall
    ∷ []

abbrev all : (Refusal → Bool) → List Refusal → Bool
all p [] = true
all p (x ∷ xs) = p x && all p xs

at : (p : Refusal → Bool) (l : List Refusal) → all p l ≡ true → (k : ℕ) → k < length l → p (get_or l k AboveLimit) ≡ true
at p [] e k h = absurd (omega (arith, h))
at p (x ∷ xs) e zero h = (and_parts _ _ e).0
at p (x ∷ xs) e (suc k) h = at p xs (and_parts _ _ e).1 k (omega (arith, h))

of-each : (p : Refusal → Bool) → all p refusals ≡ true → (r : Refusal) → p r ≡ true
of-each p e AboveLimit = at p refusals e 0 (omega arith)
of-each p e OutsideBytes = at p refusals e 1 (omega arith)
of-each p e BrokenRunEnds = at p refusals e 2 (omega arith)
of-each p e FalseCount = at p refusals e 3 (omega arith)
of-each p e SerialConflict = at p refusals e 4 (omega arith)
of-each p e ImpossibleBuilder = at p refusals e 5 (omega arith)
of-each p e UnequalLengths = at p refusals e 6 (omega arith)
of-each p e NotAGrid = at p refusals e 7 (omega arith)
of-each p e OutsideMask = at p refusals e 8 (omega arith)
of-each p e CountNotOfSlice = at p refusals e 9 (omega arith)
of-each p e AddressRemainder = at p refusals e 10 (omega arith)
of-each p e OutputTooSmall = at p refusals e 11 (omega arith)

-- refusals are declared in the order of their numbers' ranks
pub least-number : (x y : Refusal) → number (ord_min cmp-value.it x y) ≡ earlier (number x) (number y)
unfolding earlier rank place_in
least-number x y =
    eqb-true _ _ (of-each (λ b. eqb (number (ord_min cmp-value.it x b)) (earlier (number x) (number b)))
    (of-each (λ a. all (λ b. eqb (number (ord_min cmp-value.it a b)) (earlier (number a) (number b))) refusals) refl x) y)

-- no refusal has the number 0, which means that no check failed
pub number-ne0 : (r : Refusal) → number r ≡ 0 → ⊥
number-ne0 AboveLimit e = omega arith
number-ne0 OutsideBytes e = omega arith
number-ne0 BrokenRunEnds e = omega arith
number-ne0 FalseCount e = omega arith
number-ne0 SerialConflict e = omega arith
number-ne0 ImpossibleBuilder e = omega arith
number-ne0 UnequalLengths e = omega arith
number-ne0 NotAGrid e = omega arith
number-ne0 OutsideMask e = omega arith
number-ne0 CountNotOfSlice e = omega arith
number-ne0 AddressRemainder e = omega arith
number-ne0 OutputTooSmall e = omega arith

-- ---- the early exit of a `?` in calls whose refusal carries no record

-- the early exit of a call
pub exit-number : {A : Type 0} (result : Result A Refusal) (e : Refusal) → IsErrAnd result (λ (y : Refusal). y ≡ e)
    → failure_of result ≡ number e
exit-number result e h = let p = err_from_is_err_and result h in ap failure_of p.1 ∙ ap number p.2

-- ---- the early exit in calls whose refusal carries the record

abbrev error-of : {S A : Type 0} → Refused S → Result A (Refused S) → Refused S
error-of d (Ok a) = d
error-of d (Err x) = x

-- the result of a check, with the record added to a refusal
abbrev pub with_state : {S A : Type 0} → Result A Refusal → S → Result A (Refused S)
with_state (Ok a) s = Ok a
with_state (Err k) s = Err (record { refusal = k; state = s })

-- an error of `with_state` has the check's refusal and the record
pub back-err : {S A : Type 0} (r : Result A Refusal) (s : S) (x : Refused S) → Err x ≡ with_state r s → (r ≡ Err x.refusal) × (x.state ≡ s)
back-err (Ok a) s x e = cc
back-err (Err k) s x e = let p = ap (error-of x) e in (ap (λ (y : Refused _). Err y.refusal) (sym p), ap (λ (y : Refused _). y.state) p)

-- the checks pass if the result with the record, which is `Ok` exactly if theirs is, is `Ok`
pub passed-back : {S : Type 0} (r : Result (Unit {0}) Refusal) (m : Result (Unit {0}) (Refused S)) (u : Unit {0}) → is_ok m ≡ is_ok r
    → m ≡ Ok u → failure_of r ≡ 0
passed-back (Ok a) m u v w = refl
passed-back (Err k) m u v w = let e : true ≡ false = sym (ap is_ok w) ∙ v in cc

-- if the result with the record is an error, the number of the checks is not 0
pub failed-back : {S : Type 0} (r : Result (Unit {0}) Refusal) (s : S) (x : Refused S) → Err x ≡ with_state r s → failure_of r ≡ 0 → ⊥
failed-back r s x e h = number-ne0 x.refusal (sym (ap failure_of (back-err r s x e).0) ∙ h)

-- the number of a call whose refusal carries the record is that of the check
pub back-number : {S T A : Type 0} (r : Result T Refusal) (s : S) (x : Refused S) → Err x ≡ with_state r s
    → (result : Result A (Refused S)) → IsErrAnd result (λ (y : Refused S). y ≡ x) → failure_back result ≡ failure_of r
back-number r s x e result h =
    let p = err_from_is_err_and result h in
    ap failure_back (p.1 ∙ ap (λ (y : Refused _). Err y) p.2) ∙ sym (ap failure_of (back-err r s x e).0)
