-- What is read of lists that were written over the front of an output, and of an answer. For the calls of crates above masks.
use Rattle.std.proofs.Common.{◌≡◌, refl, sym, ap, ◌∙◌, ℕ, zero, suc, ◌+◌, ◌<◌, ◌≤◌, Bool, false, List, [], ◌∷◌, length, take, get_or}
use Rattle.std.proofs.Common.{Some, None, cond, arith}
use borrow.Author.Tests.{eq-eqb, ne_eqb}
use Rattle.words.specs.Flags.{flags_of, over, window}
use Rattle.words.proofs.flags.Bytes.{flags-over, length-flags}
use Rattle.words.proofs.flags.Windows.{window-all, window-ext}
use Rattle.words.proofs.theorems.Plain.{at-flags, at-over}
use Rattle.masks.specs.Checks.{Check, first_failed}
use Rattle.masks.specs.Frozen.{frozen, frozen_size, with_frozen}
use Rattle.masks.specs.Mask.{written_mask}
use Rattle.masks.specs.declared.bitmap.Bitmap.{Bitmap}
use Rattle.masks.specs.equations.Answer.{checked, given, kept, refused}
use Rattle.masks.proofs.checks.CheckLaws.{is-kept, is-new}
use Rattle.masks.proofs.statements.CountPlain.{EachCounts}
use Rattle.masks.proofs.refusal.AnswerLaws.{given-number, given-value, refused-failed}
use Rattle.masks.proofs.theorems.FrozenPlain.{frozen-plain}

-- the first flags of an output with frozen bytes written over it
pub frozen-window : (out : List ℕ) (l : List Bool) (n : ℕ) → length l ≡ n → frozen_size n ≤ length out
    → window (flags_of (with_frozen out l)) 0 n ≡ l
frozen-window out l n e room =
    ap (λ (f : List Bool). window f 0 n) (flags-over out (frozen l))
    ∙ window-ext (over (flags_of out) (flags_of (frozen l))) l 0 0 n (λ j p.
    let z : 0 + j ≡ j = omega arith in
    let s : frozen_size (length l) ≡ frozen_size n = ap frozen_size e in
    let q : j < length l = omega arith in
    ap (λ (i : ℕ). get_or (over (flags_of out) (flags_of (frozen l))) i false) z
    ∙ at-over (flags_of out) (flags_of (frozen l)) j false (omega (arith, length-flags (frozen l), frozen-plain.size l, s))
    (omega (arith, length-flags out)) ∙ at-flags (frozen l) j ∙ frozen-plain.below l j q ∙ ap (λ (i : ℕ). get_or l i false) (sym z))
    ∙ ap (window l 0) (sym e) ∙ window-all l

pub take-over : {A : Type 0} (l m : List A) (n : ℕ) → length m ≡ n → n ≤ length l → take n (over l m) ≡ m
unfolding over
take-over l m zero e p = sym (no-flags m e)
  where
    no-flags : {B : Type 0} (k : List B) → length k ≡ 0 → k ≡ []
    no-flags [] q = refl
    no-flags (x ∷ k) q = absurd (omega arith)
take-over [] m (suc n) e p = absurd (omega arith)
take-over (x ∷ l) [] (suc n) e p = absurd (omega arith)
take-over (x ∷ l) (y ∷ m) (suc n) e p = ap (λ (k : List _). y ∷ k) (take-over l m n (omega arith) (omega arith))

-- ---- an accepted call, and a refused one

module _ {S A : Type 0} (cs : List Check) (s : S) (a : A) where
  pub accepted : (x : A) → given x ≡ checked cs s a → (first_failed cs ≡ 0) × (x ≡ a)
  accepted x e = (sym (given-number (first_failed cs) s x a e), given-value (first_failed cs) s x a e)

  pub new-if : {B : Type 0} (x : A) (new old : B) → given x ≡ checked cs s a → kept (first_failed cs) new old ≡ new
  new-if x new old e = sym (is-new (first_failed cs) (first_failed cs) new old refl (accepted x e).0)

  pub old-if : {B : Type 0} (k : ℕ) (t : S) (new old : B) → refused k t ≡ checked cs s a → kept (first_failed cs) new old ≡ old
  old-if k t new old e =
      sym (is-kept (first_failed cs) (first_failed cs) new old refl (refused-failed k (first_failed cs) t s a e))

-- what a call leaves as it was if it is accepted, it leaves as it was
pub as-before : {A : Type 0} (number k : ℕ) (new old : List A) (d : A) → (number ≡ 0 → get_or new k d ≡ get_or old k d)
    → get_or (kept number new old) k d ≡ get_or old k d
unfolding kept
as-before zero k new old d e = e refl
as-before (suc n) k new old d e = refl

-- however a call ends, there are as many elements as before
pub as-long : {A : Type 0} (number : ℕ) (new old : List A) → length new ≡ length old → length (kept number new old) ≡ length old
unfolding kept
as-long zero new old e = e
as-long (suc n) new old e = refl

-- a mask that is written is not counted
pub uncounted-plain : (cs : List Check) (m : Bitmap) (n : ℕ) → EachCounts n (checked cs tt (written_mask m n))
uncounted-plain cs m n =
    record {
      none = λ c e z.
          ap (λ (x : Bitmap). x.unset) (accepted cs tt (written_mask m n) c e).1 ∙ ap (λ (t : Bool). cond t (Some 0) None) (eq-eqb n 0 z);
      other = λ c e h.
          ap (λ (x : Bitmap). x.unset) (accepted cs tt (written_mask m n) c e).1 ∙ ap (λ (t : Bool). cond t (Some 0) None) (ne_eqb n 0 h);
    }
