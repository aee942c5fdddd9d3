-- From the clauses of a call to its answer: the number of its checks, its value, its state and its bytes make the answer that tables, the
-- theorems and the exports to C speak of. One law for each kind of result.
use Rattle.std.specs.Prelude.{Result, Ok, Err, IfOk, IfErr, OnOk, OnErr, is_ok, true, Some}
use mathlib.Core.Path.{◌≡◌, refl, sym, ap, ap₂, ◌∙◌}
use mathlib.Core.List.{List, []}
use Prim.Native.Nat.{ℕ, zero, suc}
use native.Mathlib.Omega.{arith}
use Rattle.std.proofs.lemmas.Result.{IfOk-weaker}
use Rattle.masks.specs.equations.Answer.{answer, answer_back, given, refused, decided, kept, unless_empty}
use Rattle.masks.specs.Builder.{Filling, filling}
use Rattle.masks.specs.Checks.{first_failed}
use Rattle.masks.specs.Cursor.{Step, step_of}
use Rattle.masks.specs.equations.Appends.{change_answer}
use Rattle.masks.specs.equations.Cursor.{answer_step}
use Rattle.masks.specs.Mask.{mask_checks, with_count, zero_count}
use Rattle.masks.specs.equations.Mask.{unset_bits_of}
use Rattle.masks.specs.Refusal.{failure_back, failure_of, number}
use Rattle.masks.specs.Superseding.{part_bytes, part_place}
use Rattle.masks.specs.equations.Superseding.{bytes_of, place_of, record_of}
use Rattle.masks.specs.declared.bitmap.Bitmap.{Bitmap}
use Rattle.masks.specs.declared.bitmap.Recounted.{Recounted}
use Rattle.masks.specs.declared.builder.BitmapBuilder.{BitmapBuilder}
use Rattle.masks.specs.declared.superseding.Winner.{Winner}
use Rattle.masks.specs.declared.cursor.Step.{Step as Stepped}
use Rattle.masks.specs.declared.refusal.Refusal.{Refusal}
use Rattle.masks.specs.declared.refusal.Refused.{Refused}
use Rattle.masks.proofs.checks.CheckLaws.{is-given, is-kept, is-new, is-refused}
use Rattle.masks.proofs.refusal.AnswerLaws.{given-number, given-value, refused-number, refused-state}
use Rattle.masks.proofs.refusal.RefusalLaws.{number-ne0}

pub answered : {A : Type 0} (r : Result A Refusal) (m : ℕ) (a : A) → failure_of r ≡ m → IfOk r (λ x. x ≡ a) → answer r ≡ decided m tt a
answered (Ok x) m a e v = ap given v ∙ is-given 0 m tt a e refl
answered (Err k) m a e v = is-refused (number k) m tt a e (number-ne0 k)

pub answered_back : {S A : Type 0} (r : Result A (Refused S)) (m : ℕ) (s : S) (a : A) → failure_back r ≡ m → IfOk r (λ x. x ≡ a)
    → IfErr r (λ x. x.state ≡ s) → answer_back r ≡ decided m s a
answered_back (Ok x) m s a e v t = ap given v ∙ is-given 0 m s a e refl
answered_back (Err k) m s a e v t = ap (refused (number k.refusal)) t ∙ is-refused (number k.refusal) m s a e (number-ne0 k.refusal)

pub answered_step : {C A : Type 0} (r : Result (Stepped A C) (Refused C)) (m : ℕ) (c : C) (a : Step C A) → failure_back r ≡ m
    → IfOk r (λ x. step_of x.item x.cursor ≡ a) → IfErr r (λ x. x.state ≡ c) → answer_step r ≡ decided m c a
answered_step (Ok x) m c a e v t = ap given v ∙ is-given 0 m c a e refl
answered_step (Err k) m c a e v t = ap (refused (number k.refusal)) t ∙ is-refused (number k.refusal) m c a e (number-ne0 k.refusal)

-- ---- a value of two parts, of which each has a clause

joined : {E A B : Type 0} (r : Result (A × B) E) (a : A) (b : B) → IfOk r (λ x. x.0 ≡ a) → IfOk r (λ x. x.1 ≡ b)
    → IfOk r (λ x. x ≡ (a, b))
joined (Ok x) a b p q = ap₂ (λ y z. (y, z)) p q
joined (Err k) a b p q = tt

pub answered_parts : {S A B : Type 0} (r : Result (A × B) (Refused S)) (m : ℕ) (s : S) (a : A) (b : B) → failure_back r ≡ m
    → IfOk r (λ x. x.0 ≡ a) → IfOk r (λ x. x.1 ≡ b) → IfErr r (λ x. x.state ≡ s) → answer_back r ≡ decided m s (a, b)
answered_parts r m s a b e p q t = answered_back r m s (a, b) e (joined r a b p q) t

pub answered_recounted : (r : Result Recounted (Refused Bitmap)) (m : Bitmap) (bytes : List ℕ)
    → failure_back r ≡ first_failed (mask_checks m bytes) → IfOk r (λ x. x.zeros ≡ zero_count m bytes)
    → IfOk r (λ x. x.mask ≡ with_count m (Some (zero_count m bytes))) → IfErr r (λ x. x.state ≡ m) → answer_back r ≡ unset_bits_of m bytes
unfolding unset_bits_of
answered_recounted (Ok x) m bytes e p q t =
    answered_back (Ok x) _ m _ e (ap₂ (λ (k : Bitmap) (z : ℕ). record { mask = k; zeros = z }) q p) t
answered_recounted (Err k) m bytes e p q t = answered_back (Err k) _ m _ e tt t

-- ---- a call whose checks pass is not refused

pub accepted : {A : Type 0} (r : Result A Refusal) → failure_of r ≡ 0 → is_ok r ≡ true
accepted (Ok x) e = refl
accepted (Err k) e = absurd (number-ne0 k e)

pub accepted_back : {S A : Type 0} (r : Result A (Refused S)) → failure_back r ≡ 0 → is_ok r ≡ true
accepted_back (Ok x) e = refl
accepted_back (Err k) e = absurd (number-ne0 k.refusal e)

-- ---- a buffer: new if the call is not refused, else unchanged
pub written : {A B : Type 0} (r : Result A Refusal) (m : ℕ) (x new old : B) → failure_of r ≡ m → OnOk r (x ≡ new) → OnErr r (x ≡ old)
    → x ≡ kept m new old
written (Ok a) m x new old e p q = p ∙ is-new 0 m new old e refl
written (Err k) m x new old e p q = q ∙ is-kept (number k) m new old e (number-ne0 k)

pub written_back : {S A B : Type 0} (r : Result A (Refused S)) (m : ℕ) (x new old : B) → failure_back r ≡ m → OnOk r (x ≡ new)
    → OnErr r (x ≡ old) → x ≡ kept m new old
written_back (Ok a) m x new old e p q = p ∙ is-new 0 m new old e refl
written_back (Err k) m x new old e p q = q ∙ is-kept (number k.refusal) m new old e (number-ne0 k.refusal)

-- ---- two buffers, of which neither is written if the call is refused: the law for each of them
pub written_first : {A B C : Type 0} (r : Result A Refusal) (m : ℕ) (x new old : B) (y before : C) → failure_of r ≡ m → OnOk r (x ≡ new)
    → OnErr r ((x ≡ old) × (y ≡ before)) → x ≡ kept m new old
written_first (Ok a) m x new old y before e p q = p ∙ is-new 0 m new old e refl
written_first (Err k) m x new old y before e p q = q.0 ∙ is-kept (number k) m new old e (number-ne0 k)

pub written_second : {A B C : Type 0} (r : Result A Refusal) (m : ℕ) (x new old : B) (y before : C) → failure_of r ≡ m → OnOk r (x ≡ new)
    → OnErr r ((y ≡ before) × (x ≡ old)) → x ≡ kept m new old
written_second (Ok a) m x new old y before e p q = p ∙ is-new 0 m new old e refl
written_second (Err k) m x new old y before e p q = q.1 ∙ is-kept (number k) m new old e (number-ne0 k)

-- ---- the other way: the equations make the clauses, so the two forms say the same on every input

pub clauses-answered : {A : Type 0} (r : Result A Refusal) (m : ℕ) (a : A) → answer r ≡ decided m tt a
    → (failure_of r ≡ m) × IfOk r (λ x. x ≡ a)
clauses-answered (Ok x) m a e = (given-number m tt x a e, given-value m tt x a e)
clauses-answered (Err k) m a e = (refused-number (number k) m tt tt a e, tt)

pub clauses-answered_back : {S A : Type 0} (r : Result A (Refused S)) (m : ℕ) (s : S) (a : A) → answer_back r ≡ decided m s a
    → (failure_back r ≡ m) × (IfOk r (λ x. x ≡ a) × IfErr r (λ x. x.state ≡ s))
clauses-answered_back (Ok x) m s a e = (given-number m s x a e, (given-value m s x a e, tt))
clauses-answered_back (Err k) m s a e =
    (refused-number (number k.refusal) m k.state s a e, (tt, refused-state (number k.refusal) m k.state s a e))

pub clauses-answered_step : {C A : Type 0} (r : Result (Stepped A C) (Refused C)) (m : ℕ) (c : C) (a : Step C A)
    → answer_step r ≡ decided m c a
    → (failure_back r ≡ m) × (IfOk r (λ x. step_of x.item x.cursor ≡ a) × IfErr r (λ x. x.state ≡ c))
clauses-answered_step (Ok x) m c a e =
    (given-number m c (step_of x.item x.cursor) a e, (given-value m c (step_of x.item x.cursor) a e, tt))
clauses-answered_step (Err k) m c a e =
    (refused-number (number k.refusal) m k.state c a e, (tt, refused-state (number k.refusal) m k.state c a e))

pub clauses-answered_parts : {S A B : Type 0} (r : Result (A × B) (Refused S)) (m : ℕ) (s : S) (a : A) (b : B)
    → answer_back r ≡ decided m s (a, b)
    → (failure_back r ≡ m) × (IfOk r (λ x. x.0 ≡ a) × (IfOk r (λ x. x.1 ≡ b) × IfErr r (λ x. x.state ≡ s)))
clauses-answered_parts {S} {A} {B} (Ok x) m s a b e =
    let v = given-value m s x (a, b) e in
    (given-number m s x (a, b) e, (ap (λ (y : A × B). y.0) v, (ap (λ (y : A × B). y.1) v, tt)))
clauses-answered_parts (Err k) m s a b e =
    (refused-number (number k.refusal) m k.state s (a, b) e, (tt, (tt, refused-state (number k.refusal) m k.state s (a, b) e)))

pub clauses-answered_recounted : (r : Result Recounted (Refused Bitmap)) (m : Bitmap) (bytes : List ℕ)
    → answer_back r ≡ unset_bits_of m bytes
    → (failure_back r ≡ first_failed (mask_checks m bytes))
    × (IfOk r (λ x. x.zeros ≡ zero_count m bytes)
    × (IfOk r (λ x. x.mask ≡ with_count m (Some (zero_count m bytes))) × IfErr r (λ x. x.state ≡ m)))
unfolding unset_bits_of
clauses-answered_recounted (Ok x) m bytes e =
    let n : ℕ = first_failed (mask_checks m bytes) in
    let z : ℕ = zero_count m bytes in
    let a : Recounted = record { mask = with_count m (Some z); zeros = z } in
    let v : x ≡ a = given-value n m x a e in
    (given-number n m x a e, (ap (λ (y : Recounted). y.zeros) v, (ap (λ (y : Recounted). y.mask) v, tt)))
clauses-answered_recounted (Err k) m bytes e =
    let n : ℕ = first_failed (mask_checks m bytes) in
    let z : ℕ = zero_count m bytes in
    let a : Recounted = record { mask = with_count m (Some z); zeros = z } in
    (refused-number (number k.refusal) n k.state m a e, (tt, (tt, refused-state (number k.refusal) n k.state m a e)))

pub clauses-written : {A B : Type 0} (r : Result A Refusal) (m : ℕ) (x new old : B) → failure_of r ≡ m → x ≡ kept m new old
    → OnOk r (x ≡ new) × OnErr r (x ≡ old)
clauses-written (Ok a) m x new old e p = (p ∙ sym (is-new 0 m new old e refl), tt)
clauses-written (Err k) m x new old e p = (tt, p ∙ sym (is-kept (number k) m new old e (number-ne0 k)))

pub clauses-written_back : {S A B : Type 0} (r : Result A (Refused S)) (m : ℕ) (x new old : B) → failure_back r ≡ m → x ≡ kept m new old
    → OnOk r (x ≡ new) × OnErr r (x ≡ old)
clauses-written_back (Ok a) m x new old e p = (p ∙ sym (is-new 0 m new old e refl), tt)
clauses-written_back (Err k) m x new old e p = (tt, p ∙ sym (is-kept (number k.refusal) m new old e (number-ne0 k.refusal)))

pub clauses-written_both : {A B C : Type 0} (r : Result A Refusal) (m : ℕ) (x new old : B) (y made before : C) → failure_of r ≡ m
    → x ≡ kept m new old → y ≡ kept m made before
    → OnOk r (x ≡ new) × (OnOk r (y ≡ made) × OnErr r ((x ≡ old) × (y ≡ before)))
clauses-written_both (Ok a) m x new old y made before e p q =
    (p ∙ sym (is-new 0 m new old e refl), (q ∙ sym (is-new 0 m made before e refl), tt))
clauses-written_both (Err k) m x new old y made before e p q =
    let n = number-ne0 k in
    (tt, (tt, (p ∙ sym (is-kept (number k) m new old e n), q ∙ sym (is-kept (number k) m made before e n))))

-- ---- a builder and its buffer, by the one clause on both

module _ (r : Result BitmapBuilder (Refused BitmapBuilder)) (m : ℕ) (out : List ℕ) (f : Filling) (e : failure_back r ≡ m)
    (ok : IfOk r (λ b. filling b out ≡ f)) where
  pub answered_append : (s : BitmapBuilder) → IfErr r (λ x. x.state ≡ s) → answer_back r ≡ decided m s f.builder
  answered_append s t =
      answered_back r m s f.builder e (IfOk-weaker r _ _ (λ b h. ap (λ (g : Filling). g.builder) h) ok) t

  pub written_append : (old : List ℕ) → OnErr r (out ≡ old) → out ≡ kept m f.bytes old
  written_append old q =
      written_back r m out f.bytes old e (IfOk-weaker r _ _ (λ b h. ap (λ (g : Filling). g.bytes) h) ok) q

-- and the other way
pub clauses-appended : (r : Result BitmapBuilder (Refused BitmapBuilder)) (m : ℕ) (s : BitmapBuilder) (out old : List ℕ) (f : Filling)
    → answer_back r ≡ decided m s f.builder → out ≡ kept m f.bytes old
    → (failure_back r ≡ m) × (IfOk r (λ b. filling b out ≡ f) × (OnErr r (out ≡ old) × IfErr r (λ x. x.state ≡ s)))
clauses-appended (Ok b) m s out old f e p =
    let n = given-number m s b f.builder e in
    (n, (ap₂ filling (given-value m s b f.builder e) (p ∙ sym (is-new 0 m f.bytes old n refl)), (tt, tt)))
clauses-appended (Err k) m s out old f e p =
    let n = refused-number (number k.refusal) m k.state s f.builder e in (
      n,
      (
        tt,
        (
          p ∙ sym (is-kept (number k.refusal) m f.bytes old n (number-ne0 k.refusal)),
          refused-state (number k.refusal) m k.state s f.builder e,
        ),
      ),
    )

-- ---- the caller's own builder, n after the call and s before it, and its buffer

pub answered_change : {A : Type 0} (r : Result A Refusal) (m : ℕ) (n s : BitmapBuilder) (out : List ℕ) (f : Filling) → failure_of r ≡ m
    → OnOk r (filling n out ≡ f) → OnErr r (n ≡ s) → change_answer (failure_of r) n ≡ decided m s f.builder
unfolding decided
answered_change (Ok x) m n s out f e p q = ap (λ (g : Filling). given g.builder) p ∙ is-given 0 m s f.builder e refl
answered_change (Err k) m n s out f e p q =
    sym (is-refused (number k) (number k) n n refl (number-ne0 k)) ∙ ap (refused (number k)) q
    ∙ is-refused (number k) m s f.builder e (number-ne0 k)

pub written_change : {A : Type 0} (r : Result A Refusal) (m : ℕ) (n : BitmapBuilder) (out old : List ℕ) (f : Filling) → failure_of r ≡ m
    → OnOk r (filling n out ≡ f) → OnErr r (out ≡ old) → out ≡ kept m f.bytes old
written_change (Ok x) m n out old f e p q = ap (λ (g : Filling). g.bytes) p ∙ is-new 0 m f.bytes old e refl
written_change (Err k) m n out old f e p q = q ∙ is-kept (number k) m f.bytes old e (number-ne0 k)

pub clauses-changed : {A : Type 0} (r : Result A Refusal) (m : ℕ) (n s : BitmapBuilder) (out old : List ℕ) (f : Filling)
    → change_answer (failure_of r) n ≡ decided m s f.builder → out ≡ kept m f.bytes old
    → (failure_of r ≡ m) × (OnOk r (filling n out ≡ f) × (OnErr r (out ≡ old) × OnErr r (n ≡ s)))
unfolding decided
clauses-changed (Ok x) m n s out old f e p =
    let k = given-number m s n f.builder e in
    (k, (ap₂ filling (given-value m s n f.builder e) (p ∙ sym (is-new 0 m f.bytes old k refl)), (tt, tt)))
clauses-changed (Err k) m n s out old f e p =
    let d = is-refused (number k) (number k) n n refl (number-ne0 k) ∙ e in
    let i = refused-number (number k) m n s f.builder d in
    (i, (tt, (p ∙ sym (is-kept (number k) m f.bytes old i (number-ne0 k)), refused-state (number k) m n s f.builder d)))

-- ---- the record of a part

recorded : (k : ℕ) (p : Winner) → decided k tt p.mask ≡ record_of (decided k tt p)
unfolding decided
recorded zero p = refl
recorded (suc k) p = refl

pub answered_record : (r : Result Bitmap Refusal) (k : ℕ) (p : Winner) → failure_of r ≡ k → IfOk r (λ m. m ≡ p.mask)
    → answer r ≡ record_of (decided k tt p)
answered_record r k p e v = answered r k p.mask e v ∙ recorded k p

pub clauses-answered_record : (r : Result Bitmap Refusal) (k : ℕ) (p : Winner) → answer r ≡ record_of (decided k tt p)
    → (failure_of r ≡ k) × IfOk r (λ m. m ≡ p.mask)
clauses-answered_record r k p e = clauses-answered r k p.mask (e ∙ sym (recorded k p))

-- ---- the part of a slice that a call returns, by the number k of its checks

pub part_given : (k : ℕ) (p : Winner) (a b x : List ℕ) → (k ≡ 0 → x ≡ part_bytes p a b) → ((k ≡ 0 → ⊥) → x ≡ [])
    → x ≡ bytes_of (decided k tt p) a b
unfolding decided
part_given zero p a b x given-case refused-case = given-case refl
part_given (suc k) p a b x given-case refused-case = refused-case (λ e. omega arith)

pub place_given : (k : ℕ) (p : Winner) (a b x : ℕ × ℕ) → (k ≡ 0 → x ≡ part_place p a b) → ((k ≡ 0 → ⊥) → x ≡ a)
    → x ≡ place_of (decided k tt p) a b
unfolding decided
place_given zero p a b x given-case refused-case = given-case refl
place_given (suc k) p a b x given-case refused-case = refused-case (λ e. omega arith)

pub clauses-part_given : (k : ℕ) (p : Winner) (a b x : List ℕ) → x ≡ bytes_of (decided k tt p) a b
    → (k ≡ 0 → x ≡ part_bytes p a b) × ((k ≡ 0 → ⊥) → x ≡ [])
unfolding decided
clauses-part_given zero p a b x e = (λ _. e, λ h. absurd (h refl))
clauses-part_given (suc k) p a b x e = (λ z. absurd (omega arith), λ _. e)

pub clauses-place_given : (k : ℕ) (p : Winner) (a b x : ℕ × ℕ) → x ≡ place_of (decided k tt p) a b
    → (k ≡ 0 → x ≡ part_place p a b) × ((k ≡ 0 → ⊥) → x ≡ a)
unfolding decided
clauses-place_given zero p a b x e = (λ _. e, λ h. absurd (h refl))
clauses-place_given (suc k) p a b x e = (λ z. absurd (omega arith), λ _. e)

-- ---- a call over a bare span: no check for no flags

pub answered_unless : {A : Type 0} (r : Result A Refusal) (n m : ℕ) (z a : A) → (n ≡ 0 → failure_of r ≡ 0)
    → ((n ≡ 0 → ⊥) → failure_of r ≡ m) → IfOk r (λ x. x ≡ a) → (n ≡ 0 → a ≡ z) → answer r ≡ unless_empty n (given z) (decided m tt a)
unfolding unless_empty decided
answered_unless r zero m z a p q v e = answered r 0 a (p refl) v ∙ ap given (e refl)
answered_unless r (suc n) m z a p q v e = answered r m a (q (λ h. omega arith)) v

pub clauses-answered_unless : {A : Type 0} (r : Result A Refusal) (n m : ℕ) (z a : A) → (n ≡ 0 → z ≡ a)
    → answer r ≡ unless_empty n (given z) (decided m tt a)
    → (n ≡ 0 → failure_of r ≡ 0) × (((n ≡ 0 → ⊥) → failure_of r ≡ m) × IfOk r (λ x. x ≡ a))
unfolding unless_empty decided
clauses-answered_unless r zero m z a q e =
    let p = clauses-answered r 0 z e in (λ h. p.0, (λ h. absurd (h refl), IfOk-weaker r _ _ (λ x h. h ∙ q refl) p.1))
clauses-answered_unless r (suc n) m z a q e = let p = clauses-answered r m a e in (λ h. absurd (omega arith), (λ h. p.0, p.1))
