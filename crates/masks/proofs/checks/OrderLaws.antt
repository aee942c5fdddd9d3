-- The order of the checks: the effect of a number that comes before the others. For functions that check limits one by one.
use Rattle.std.proofs.lemmas.Bool.{and_parts}
use mathlib.Core.Path.{◌≡◌, sym, ap, ◌∙◌}
use mathlib.Core.Bool.{Bool, true, false, cond, ◌&&◌}
use mathlib.Core.List.{List, [], ◌∷◌}
use Prim.Native.Nat.{ℕ, zero, suc, ◌≤◌}
use native.Mathlib.Omega.{arith}
use lib.Dec.{leb}
use borrow.Author.Tests.{leb-true}
use Rattle.masks.specs.Checks.{Check, rank, earlier, failure, first_failed, limit, within_limit}
use Rattle.masks.proofs.checks.CheckLaws.{earlier-none, first-least, earlier-assoc}

-- whether no number of a list comes before k in the order
abbrev pub leads : ℕ → List Check → Bool
leads k [] = true
leads k (c ∷ cs) = leb (rank k) (rank c.number) && leads k cs

led_number : (k n : ℕ) → rank (suc k) ≤ rank n → earlier (suc k) n ≡ suc k
led_number k zero h = earlier-none (suc k)
led_number k (suc n) h = first-least (suc k) (suc n) (λ e. omega arith) (λ e. omega arith) h

led_failure : (k : ℕ) (c : Check) → rank (suc k) ≤ rank c.number → earlier (suc k) (failure c) ≡ suc k
led_failure k c h = go c.holds
  where
    go : (t : Bool) → earlier (suc k) (cond t 0 c.number) ≡ suc k
    go true = earlier-none (suc k)
    go false = led_number k c.number h

-- then k is the number, whichever checks of the list fail
pub led : (k : ℕ) (cs : List Check) → leads (suc k) cs ≡ true → earlier (suc k) (first_failed cs) ≡ suc k
unfolding first_failed
led k [] e = earlier-none (suc k)
led k (c ∷ cs) e =
    sym (earlier-assoc (suc k) (failure c) (first_failed cs))
    ∙ ap (λ (x : ℕ). earlier x (first_failed cs))
    (led_failure k c (leb-true (rank (suc k)) (rank c.number) (and_parts _ _ e).0))
    ∙ led k cs (and_parts _ _ e).1

-- a number over the limit makes the refusal 1, whichever other checks fail
pub limit-first : (n r : ℕ) (cs : List Check) → leads 1 cs ≡ true → r ≡ first_failed (within_limit n ∷ []) → (r ≡ 0 → ⊥)
    → r ≡ first_failed (within_limit n ∷ cs)
unfolding first_failed
limit-first n r cs e p z = go (leb n limit) (p ∙ earlier-none (cond (leb n limit) 0 1))
  where
    go : (t : Bool) → r ≡ cond t 0 1 → r ≡ earlier (cond t 0 1) (first_failed cs)
    go true q = absurd (z q)
    go false q = q ∙ sym (led 0 cs e)
