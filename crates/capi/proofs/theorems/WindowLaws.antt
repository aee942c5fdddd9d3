-- The laws of the exports of a window of minutes.
use Rattle.std.proofs.Common.{ℕ, ◌≡◌, sym, ap, Bool, cond, List}
use borrow.Author.Tests.{ne_eqb}
use Rattle.capi.specs.Window.{unless_refused}

-- ---- an array that is written unless the call refuses

pub stays : (k : ℕ) (came new : List ℕ) → (k ≡ 0 → ⊥) → came ≡ unless_refused k came new
unfolding unless_refused
stays k came new h = ap (λ (x : Bool). cond x new came) (sym (ne_eqb k 0 h))
