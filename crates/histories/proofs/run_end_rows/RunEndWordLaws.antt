-- The reference list's own words on runs agree with the definitions of the contracts, for every list of ends and every list of flags.
use Rattle.std.proofs.Common.{◌≡◌, refl, ap, ap₂, ◌∙◌, ℕ, zero, suc, ℤ, Bool, true, false, cond, List, [], ◌∷◌, map, Option, Some, None}
use Rattle.std.proofs.Common.{arith}
use Rattle.std.specs.Bool.{beq}
use Rattle.std.specs.Prelude.{pos, negsuc}
use borrow.Author.Tests.{le-ltb}
use Rattle.run_ends.specs.Read.{flag_at, flag_of_run, flags_from, is_above}
use Rattle.run_ends.specs.Write.{run_flags}
use Rattle.run_ends.proofs.read.FlagLaws.{flag-first, flag-later}
use Rattle.histories.specs.ReferenceList.{above, changes_after, run_values, up_from, value_at}

-- ---- the flag of a position

above-word : (p : ℕ) (e : ℤ) → is_above p e ≡ above p e
above-word p (pos n) = refl
above-word p (negsuc n) = le-ltb p 0 (omega arith)

no-value : (o : Option ℕ) → flag_of_run [] o ≡ false
no-value (Some k) = refl
no-value None = refl

value-word : (ends : List ℤ) (values : List Bool) (p : ℕ) → flag_at ends values p ≡ value_at ends values p
value-word [] values p = refl
value-word (e ∷ es) [] p = no-value _
value-word (e ∷ es) (v ∷ vs) p = by (above p e) (above-word p e) (value-word es vs p)
  where
    by : (t : Bool) → is_above p e ≡ t → flag_at es vs p ≡ value_at es vs p → flag_at (e ∷ es) (v ∷ vs) p ≡ cond t v (value_at es vs p)
    by true h rest = flag-first e es v vs p h
    by false h rest = flag-later e es v vs p h ∙ rest

-- n of them, from position p on
pub read-word : (ends : List ℤ) (values : List Bool) (p n : ℕ) → flags_from ends values p n ≡ map (value_at ends values) (up_from p n)
unfolding flags_from
read-word ends values p zero = refl
read-word ends values p (suc n) =
    ap₂ (λ (x : Bool) (l : List Bool). x ∷ l) (value-word ends values p) (read-word ends values (suc p) n)

-- ---- the values of a list's runs

one-value : (x y : Bool) (l : List Bool) → run_flags (y ∷ l) ≡ y ∷ changes_after y l
    → cond (beq x y) (run_flags (y ∷ l)) (x ∷ run_flags (y ∷ l)) ≡ x ∷ changes_after x (y ∷ l)
one-value true true l e = e
one-value false false l e = e
one-value true false l e = ap (λ (k : List Bool). true ∷ k) e
one-value false true l e = ap (λ (k : List Bool). false ∷ k) e

values-after : (x : Bool) (l : List Bool) → run_flags (x ∷ l) ≡ x ∷ changes_after x l
unfolding run_flags
values-after x [] = refl
values-after x (y ∷ l) = one-value x y l (values-after y l)

pub values-word : (l : List Bool) → run_flags l ≡ run_values l
unfolding run_flags
values-word [] = refl
values-word (x ∷ l) = values-after x l
