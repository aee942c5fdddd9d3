-- The checks of a reading, made one after another in their order; and what follows if they pass.
use Rattle.std.proofs.Common.{◌≡◌, refl, sym, ap, ◌∙◌, ℕ, suc, ◌+◌, ◌*◌, ◌≤◌, Bool, true, false, cond, ◌&&◌, ℤ, List, [], ◌∷◌}
use Rattle.std.proofs.Common.{length, leb, eqb, arith}
use Rattle.std.proofs.lemmas.Bool.{and_parts}
use borrow.Author.Tests.{eq-eqb, eqb-true, leb-true, ne_eqb}
use Rattle.masks.specs.Checks.{check, earlier, first_failed, limit, output_checks, place_in, rank, span_checks, within_limit}
use Rattle.masks.specs.Frozen.{frozen_size}
use Rattle.masks.specs.Mask.{count_valid, mask_checks}
use Rattle.masks.specs.declared.bitmap.Bitmap.{Bitmap}
use Rattle.masks.proofs.checks.CheckLaws.{both_left, both_right, check-allowed, earlier-none, failed-append, first-allowed, none-earlier}
use Rattle.masks.proofs.checks.CheckLaws.{passed-left, rest-allowed, span-allowed}
use Rattle.run_ends.specs.Read.{read_checks}
use Rattle.run_ends.specs.Rules.{runs_hold}
use Rattle.run_ends.specs.Workers.{Readable}

-- ---- the number, by which checks hold: s, l and i those of the span, v the count, t the stated length, u the runs, w the output

abbrev each : (Bool → Bool) → Bool
each f = f true && f false

of-each : (f : Bool → Bool) → each f ≡ true → (b : Bool) → f b ≡ true
of-each f e true = (and_parts _ _ e).0
of-each f e false = (and_parts _ _ e).1

-- all at once
abbrev at-once : Bool → Bool → Bool → Bool → Bool → Bool → Bool → ℕ
at-once s l i v t u w =
    first_failed (check 1 s ∷ check 1 l ∷ check 2 i ∷ check 3 v ∷ check 1 t ∷ check 13 u ∷ check 9 w ∷ [])

-- the first two of the code
abbrev first-two : Bool → Bool → Bool → Bool → ℕ
first-two s l i t = earlier (first_failed (check 1 s ∷ check 1 l ∷ check 2 i ∷ [])) (cond t 0 1)

-- one after another
abbrev in-turn : Bool → Bool → Bool → Bool → Bool → Bool → Bool → ℕ
in-turn s l i v t u w = cond (eqb (first-two s l i t) 0) (cond u (cond v (cond w 0 9) 3) 13) (first-two s l i t)

abbrev agree : Bool → Bool → Bool → Bool → Bool → Bool → Bool → Bool
agree s l i v t u w = eqb (at-once s l i v t u w) (in-turn s l i v t u w)

all-agree : each (λ s. each (λ l. each (λ i. each (λ v. each (λ t. each (λ u. each (agree s l i v t u))))))) ≡ true
unfolding first_failed earlier rank place_in
all-agree = refl

same : (s l i v t u w : Bool) → at-once s l i v t u w ≡ in-turn s l i v t u w
same s l i v t u w =
    eqb-true _ _
    (of-each (agree s l i v t u)
    (of-each (λ u. each (agree s l i v t u))
    (of-each (λ t. each (λ u. each (agree s l i v t u)))
    (of-each (λ v. each (λ t. each (λ u. each (agree s l i v t u))))
    (of-each (λ i. each (λ v. each (λ t. each (λ u. each (agree s l i v t u)))))
    (of-each (λ l. each (λ i. each (λ v. each (λ t. each (λ u. each (agree s l i v t u))))))
    (of-each (λ s. each (λ l. each (λ i. each (λ v. each (λ t. each (λ u. each (agree s l i v t u))))))) all-agree s) l) i) v) t) u) w)

-- ---- one check

one-number : (k : ℕ) (b : Bool) → first_failed (check k b ∷ []) ≡ cond b 0 k
unfolding first_failed
one-number k b = earlier-none (cond b 0 k)

failing : (b : Bool) (k x r : ℕ) → r ≡ cond b 0 k → (r ≡ 0 → ⊥) → r ≡ cond b x k
failing true k x r e h = absurd (h e)
failing false k x r e h = e

passing : (b : Bool) (k x : ℕ) → 0 ≡ cond b 0 (suc k) → x ≡ cond b x (suc k)
passing true k x e = refl
passing false k x e = absurd (omega arith)

-- a number and what comes if it is none
other : (x a : ℕ) → (x ≡ 0 → ⊥) → x ≡ cond (eqb x 0) a x
other x a h = ap (λ (t : Bool). cond t a x) (sym (ne_eqb x 0 h))

no-other : (x a : ℕ) → x ≡ 0 → cond (eqb x 0) a x ≡ a
no-other x a z = ap (λ (t : Bool). cond t a x) (eq-eqb x 0 z)

-- ---- the calls of the code

module _ (ends : List ℤ) (m : Bitmap) (bytes : List ℕ) (n size : ℕ) where
  abbrev s : Bool
  s = leb m.start limit

  abbrev l : Bool
  l = leb m.length limit

  abbrev i : Bool
  i = leb (m.start + m.length) (8 * length bytes)

  abbrev t : Bool
  t = leb n limit

  abbrev first : ℕ
  first = earlier (first_failed (span_checks m.start m.length (length bytes))) (cond t 0 1)

  in-order : first_failed (read_checks ends m bytes n size)
      ≡ cond (eqb first 0) (cond (runs_hold n ends m.length) (cond (count_valid m bytes) (cond (leb (frozen_size n) size) 0 9) 3) 13) first
  unfolding read_checks mask_checks span_checks output_checks
  in-order = same s l i (count_valid m bytes) t (runs_hold n ends m.length) (leb (frozen_size n) size)

  -- the first two fail; they pass, and so on
  pub first-failed : (r : ℕ) → r ≡ earlier (first_failed (span_checks m.start m.length (length bytes))) (cond t 0 1) → (r ≡ 0 → ⊥)
      → r ≡ first_failed (read_checks ends m bytes n size)
  unfolding span_checks
  first-failed r e h = e ∙ other first _ (λ z. h (e ∙ z)) ∙ sym in-order

  after-first : first ≡ 0 → first_failed (read_checks ends m bytes n size)
      ≡ cond (runs_hold n ends m.length) (cond (count_valid m bytes) (cond (leb (frozen_size n) size) 0 9) 3) 13
  after-first z = in-order ∙ no-other first _ z

  pub runs-failed : (r : ℕ) → first ≡ 0 → r ≡ first_failed (check 13 (runs_hold n ends m.length) ∷ []) → (r ≡ 0 → ⊥)
      → r ≡ first_failed (read_checks ends m bytes n size)
  runs-failed r z e h = failing (runs_hold n ends m.length) 13 _ r (e ∙ one-number 13 (runs_hold n ends m.length)) h ∙ sym (after-first z)

  mask-number : first ≡ 0 → first_failed (mask_checks m bytes) ≡ cond (count_valid m bytes) 0 3
  unfolding mask_checks span_checks
  mask-number z =
      failed-append (span_checks m.start m.length (length bytes)) (check 3 (count_valid m bytes) ∷ [])
      ∙ ap (λ (x : ℕ). earlier x (first_failed (check 3 (count_valid m bytes) ∷ []))) (passed-left _ (cond t 0 1) z)
      ∙ none-earlier _ ∙ one-number 3 (count_valid m bytes)

  pub count-failed : (r : ℕ) → first ≡ 0 → 0 ≡ first_failed (check 13 (runs_hold n ends m.length) ∷ [])
      → r ≡ first_failed (mask_checks m bytes) → (r ≡ 0 → ⊥) → r ≡ first_failed (read_checks ends m bytes n size)
  count-failed r z p e h =
      failing (count_valid m bytes) 3 _ r (e ∙ mask-number z) h
      ∙ passing (runs_hold n ends m.length) 12 _ (p ∙ one-number 13 (runs_hold n ends m.length)) ∙ sym (after-first z)

  pub output-left : (r : ℕ) → first ≡ 0 → 0 ≡ first_failed (check 13 (runs_hold n ends m.length) ∷ [])
      → 0 ≡ first_failed (mask_checks m bytes) → r ≡ first_failed (output_checks n size)
      → r ≡ first_failed (read_checks ends m bytes n size)
  unfolding output_checks
  output-left r z p q e =
      e ∙ one-number 9 (leb (frozen_size n) size) ∙ passing (count_valid m bytes) 2 _ (q ∙ mask-number z)
      ∙ passing (runs_hold n ends m.length) 12 _ (p ∙ one-number 13 (runs_hold n ends m.length)) ∙ sym (after-first z)

-- ---- what follows if all pass

pub record ReadAllowed (ends : List ℤ) (m : Bitmap) (bytes : List ℕ) (n size : ℕ) : Type 0 where
  pub starts : m.start ≤ limit
  pub inside : m.start + m.length ≤ 8 * length bytes
  pub counted : count_valid m bytes ≡ true
  pub paired : length ends ≡ m.length
  pub readable : Readable ends m.start n size

pub read-allowed : (ends : List ℤ) (m : Bitmap) (bytes : List ℕ) (n size : ℕ) → first_failed (read_checks ends m bytes n size) ≡ 0
    → ReadAllowed ends m bytes n size
unfolding read_checks mask_checks output_checks
read-allowed ends m bytes n size e =
    let last = check 9 (leb (frozen_size n) size) ∷ [] in
    let cs = check 13 (runs_hold n ends m.length) ∷ last in
    let mask = both_left (mask_checks m bytes) (within_limit n ∷ cs) e in
    let tail = both_right (mask_checks m bytes) (within_limit n ∷ cs) e in
    let span = span-allowed m.start m.length (length bytes) (both_left _ (check 3 (count_valid m bytes) ∷ []) mask) in
    let runs = rest-allowed (within_limit n) cs tail in
    let hold = and_parts _ _ (first-allowed 12 (runs_hold n ends m.length) last runs) in
    let paired : length ends ≡ m.length = eqb-true (length ends) m.length hold.1 in
    let short : m.length ≤ limit = span.short in
    record {
      starts = span.starts;
      inside = span.inside;
      counted = check-allowed 2 (count_valid m bytes) (both_right _ (check 3 (count_valid m bytes) ∷ []) mask);
      paired = paired;
      readable =
          record {
            holds = hold.0;
            starts = span.starts;
            few = omega (arith, paired, short);
            short = leb-true n limit (first-allowed 0 (leb n limit) cs tail);
            room =
                leb-true (frozen_size n) size
                (check-allowed 8 (leb (frozen_size n) size) (rest-allowed (check 13 (runs_hold n ends m.length)) last runs));
          };
    }
