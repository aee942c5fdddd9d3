-- What the numbers of a call's checks say of the answer and the bytes of its equation: for the theorem on refusals.
use mathlib.Core.Path.{◌≡◌, refl, sym, ap, ◌∙◌}
use mathlib.Core.Bool.{true}
use mathlib.Core.List.{List}
use Prim.Native.Nat.{ℕ, zero, suc}
use native.Mathlib.Omega.{arith}
use Rattle.masks.specs.equations.Answer.{Answer, given, refused, checked, kept, unless_empty}
use Rattle.masks.specs.Checks.{Check, first_failed}
use Rattle.masks.proofs.statements.Refusals.{among, FailsBy}
use Rattle.masks.proofs.refusal.AnswerLaws.{refused-number, refused-state, refused-failed}
use Rattle.masks.proofs.checks.CheckLaws.{is-kept}

-- a call on the state s: it refuses only with these numbers, and with that state
pub record Refuses {S A : Type 0} (ns : List ℕ) (s : S) (answer : Answer S A) : Type 0 where
  pub number : (k : ℕ) (t : S) → answer ≡ refused k t → among k ns ≡ true
  pub state : (k : ℕ) (t : S) → answer ≡ refused k t → t ≡ s

-- in addition, if it refuses, the buffer lent to it is unchanged
pub record RefusesUnwritten {S A B : Type 0} (ns : List ℕ) (s : S) (answer : Answer S A) (before after : B) : Type 0 where
  pub refuses : Refuses ns s answer
  pub unwritten : (k : ℕ) (t : S) → answer ≡ refused k t → after ≡ before

pub refuses-by : {S A : Type 0} {ns : List ℕ} {cs : List Check} {s : S} (a : A) → FailsBy ns cs → Refuses ns s (checked cs s a)
refuses-by {S} {A} {ns} {cs} {s} a f =
    record {
      number = λ k t h.
          ap (λ (x : ℕ). among x ns) (refused-number k (first_failed cs) t s a (sym h))
          ∙ f.number (refused-failed k (first_failed cs) t s a (sym h));
      state = λ k t h. refused-state k (first_failed cs) t s a (sym h);
    }

pub refuses-unwritten : {S A B : Type 0} {ns : List ℕ} {cs : List Check} {s : S} (a : A) {before : B} (new : B) → FailsBy ns cs
    → RefusesUnwritten ns s (checked cs s a) before (kept (first_failed cs) new before)
refuses-unwritten {S} {A} {B} {ns} {cs} {s} a {before} new f =
    record {
      refuses = refuses-by a f;
      unwritten = λ k t h.
          sym (is-kept (first_failed cs) (first_failed cs) new before refl (refused-failed k (first_failed cs) t s a (sym h)));
    }

-- an answer before any check is no refusal
pub refuses-nonempty : {S A : Type 0} (n : ℕ) {ns : List ℕ} {s : S} (a : A) {answer : Answer S A} → Refuses ns s answer
    → Refuses ns s (unless_empty n (given a) answer)
unfolding unless_empty
refuses-nonempty zero a r =
    record {
      number = λ k t h. absurd (let z : ◌≡◌ {A = ℕ} 0 1 = cc h in omega arith);
      state = λ k t h. absurd (let z : ◌≡◌ {A = ℕ} 0 1 = cc h in omega arith);
    }
refuses-nonempty (suc n) a r = r
