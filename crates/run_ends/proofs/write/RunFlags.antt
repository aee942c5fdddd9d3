-- The flags of the runs of a list alternate, and there is one more than edges.
use Rattle.std.proofs.Common.{◌≡◌, ℕ, zero, suc, ◌+◌, ◌≤◌, pos, Bool, true, false, cond, List, [], ◌∷◌, length, map, get_or}
use Rattle.std.proofs.Common.{refl, sym, ap, ap₂, ◌∙◌, arith, eqb}
use Rattle.std.proofs.Math.Bool.{xor}
use borrow.Author.Tests.{ne_eqb}
use Rattle.words.specs.Changes.{alternating}
use Rattle.words.specs.Flags.{window}
use Rattle.masks.specs.Compare.{edges}
use Rattle.run_ends.specs.Write.{ends_from, run_flags}

-- there are as many flags as ends
pub paired-from : (p : ℕ) (l : List Bool) → length (run_flags l) ≡ length (map pos (ends_from p l))
unfolding ends_from run_flags
paired-from p [] = refl
paired-from p (x ∷ []) = refl
paired-from p (true ∷ true ∷ l) = paired-from (suc p) (true ∷ l)
paired-from p (true ∷ false ∷ l) = ap suc (paired-from (suc p) (false ∷ l))
paired-from p (false ∷ true ∷ l) = ap suc (paired-from (suc p) (true ∷ l))
paired-from p (false ∷ false ∷ l) = paired-from (suc p) (false ∷ l)

-- one more than edges
more-edges : (x : Bool) (l : List Bool) → length (run_flags (x ∷ l)) ≡ edges (x ∷ l) + 1
unfolding run_flags edges xor
more-edges x [] = refl
more-edges true (true ∷ l) = more-edges true l ∙ omega arith
more-edges true (false ∷ l) = ap suc (more-edges false l) ∙ omega arith
more-edges false (true ∷ l) = ap suc (more-edges true l) ∙ omega arith
more-edges false (false ∷ l) = more-edges false l ∙ omega arith

pub edges-short : (l : List Bool) → edges l ≤ length l
unfolding edges xor
edges-short [] = omega arith
edges-short (x ∷ []) = omega arith
edges-short (true ∷ true ∷ l) = omega (arith, edges-short (true ∷ l))
edges-short (true ∷ false ∷ l) = omega (arith, edges-short (false ∷ l))
edges-short (false ∷ true ∷ l) = omega (arith, edges-short (true ∷ l))
edges-short (false ∷ false ∷ l) = omega (arith, edges-short (false ∷ l))

pub counted : (l : List Bool) (n r e : ℕ) → length l ≡ n → e ≡ edges l → r ≡ cond (eqb n 0) 0 (e + 1) → r ≡ length (run_flags l)
unfolding run_flags
counted [] zero r e long p q = q
counted [] (suc n) r e long p q = absurd (omega arith)
counted (x ∷ l) zero r e long p q = absurd (omega arith)
counted (x ∷ l) (suc n) r e long p q =
    q ∙ ap (λ (t : Bool). cond t 0 (e + 1)) (ne_eqb (suc n) 0 (λ z. omega arith)) ∙ ap (λ (k : ℕ). k + 1) p ∙ sym (more-edges x l)

-- they alternate
alternate : (x : Bool) (l : List Bool) → run_flags (x ∷ l) ≡ alternating (length (run_flags (x ∷ l))) x
unfolding run_flags alternating
alternate x [] = refl
alternate true (true ∷ l) = alternate true l
alternate true (false ∷ l) = ap (λ (m : List Bool). true ∷ m) (alternate false l)
alternate false (true ∷ l) = ap (λ (m : List Bool). false ∷ m) (alternate true l)
alternate false (false ∷ l) = alternate false l

pub run-flags-window : (F : List Bool) (s n r : ℕ) (x : Bool) → x ≡ get_or F s false → r ≡ length (run_flags (window F s n))
    → alternating r x ≡ run_flags (window F s n)
unfolding window alternating run_flags
run-flags-window F s zero r x e h = ap (λ (k : ℕ). alternating k x) h
run-flags-window F s (suc n) r x e h =
    ap₂ alternating h e ∙ sym (alternate (get_or F s false) (window F (suc s) n))

-- no more runs than flags
pub few-runs : (l : List Bool) → length (run_flags l) ≤ length l
unfolding run_flags
few-runs [] = omega arith
few-runs (x ∷ []) = omega arith
few-runs (true ∷ true ∷ l) = omega (arith, few-runs (true ∷ l))
few-runs (true ∷ false ∷ l) = omega (arith, few-runs (false ∷ l))
few-runs (false ∷ true ∷ l) = omega (arith, few-runs (true ∷ l))
few-runs (false ∷ false ∷ l) = omega (arith, few-runs (false ∷ l))
