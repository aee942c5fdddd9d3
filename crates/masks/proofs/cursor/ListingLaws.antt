-- The items of a cursor: if each call returns the first item of what is left and keeps the others, all that is left is listed.
use mathlib.Core.Path.{◌≡◌, refl, sym, ap, ◌∙◌}
use mathlib.Core.List.{List, [], ◌∷◌, ◌++◌}
use Prim.Native.Nat.{ℕ, zero, suc, ◌<◌, ◌≤◌}
use native.Mathlib.Omega.{arith}
use lib.Dec.{leb}
use borrow.Author.Tests.{le-leb}
use Rattle.masks.specs.equations.Answer.{Answer, given}
use Rattle.masks.specs.Checks.{Check, check, earlier, first_failed}
use Rattle.masks.specs.Cursor.{Step, item, ended}
use Rattle.masks.proofs.statements.Listing.{item_then, listing, cursor_of, after_calls}
use Rattle.masks.proofs.checks.CheckLaws.{both_left, passed-before}

-- one call from c, where Ok means that its checks pass: it returns the first item of what is left, and a cursor that keeps the others
-- and is nearer to the end; or none, if nothing is left
pub data Moves {C A : Type 0} (next : C → Answer C (Step C A)) (left : C → List A) (Ok : C → Type 0) (far : C → ℕ) (c : C) : Type 0 where
  gives : (a : A) (d : C) → next c ≡ given (item a d) → Ok d → far d < far c → left c ≡ a ∷ left d → Moves next left Ok far c
  ends : (d : C) → next c ≡ given (ended d) → left c ≡ [] → Moves next left Ok far c

module _ {C A : Type 0} (next : C → Answer C (Step C A)) where
  pub an_item : (k : ℕ) (c d : C) (a : A) → next c ≡ given (item a d) → listing next (suc k) c ≡ a ∷ listing next k d
  unfolding listing
  an_item k c d a e = ap (item_then (listing next k)) e

  pub the_end : (k : ℕ) (c d : C) → next c ≡ given (ended d) → listing next (suc k) c ≡ []
  unfolding listing
  the_end k c d e = ap (item_then (listing next k)) e

  pub after-item : (k : ℕ) (c d : C) (a : A) → next c ≡ given (item a d) → after_calls next (suc k) c ≡ after_calls next k d
  unfolding after_calls
  after-item k c d a e = ap (λ (x : Answer C (Step C A)). after_calls next k (cursor_of x)) e

  pub after-end : (k : ℕ) (c d : C) → next c ≡ given (ended d) → after_calls next (suc k) c ≡ after_calls next k d
  unfolding after_calls
  after-end k c d e = ap (λ (x : Answer C (Step C A)). after_calls next k (cursor_of x)) e

  pub lists : (left : C → List A) (Ok : C → Type 0) (far : C → ℕ) → ((c : C) → Ok c → Moves next left Ok far c)
      → (k : ℕ) (c : C) → Ok c → far c < k → listing next k c ≡ left c
  lists left Ok far moves zero c ok h = absurd (omega arith)
  lists left Ok far moves (suc k) c ok h =
      step (moves c ok) (λ (d : C) (o : Ok d) (f : far d < far c). lists left Ok far moves k d o (omega arith))
    where
      step : Moves next left Ok far c → ((d : C) → Ok d → far d < far c → listing next k d ≡ left d) → listing next (suc k) c ≡ left c
      step (gives a d e o f g) again = an_item k c d a e ∙ ap (λ (t : List A). a ∷ t) (again d o f) ∙ sym g
      step (ends d e g) again = the_end k c d e ∙ sym g

-- if the checks before check 6 pass, a cursor is accepted at any place up to the length,
pub place-accepted : (A : List Check) (q n : ℕ) → first_failed A ≡ 0 → q ≤ n → first_failed (A ++ (check 6 (leb q n) ∷ [])) ≡ 0
unfolding first_failed earlier
place-accepted A q n e h = sym (passed-before A (check 6 (leb q n) ∷ []) 0 0 (sym e) refl (rw (le-leb q n h)))

-- also if it was accepted at another place
pub place-again : (A : List Check) (p q n : ℕ) → first_failed (A ++ (check 6 (leb p n) ∷ [])) ≡ 0 → q ≤ n
    → first_failed (A ++ (check 6 (leb q n) ∷ [])) ≡ 0
place-again A p q n e h = place-accepted A q n (both_left A (check 6 (leb p n) ∷ []) e) h
