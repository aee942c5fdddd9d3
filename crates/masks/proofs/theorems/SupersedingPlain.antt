-- What superseding means: the statements of `proofs/statements/SupersedingPlain.antt`.
use Rattle.std.proofs.lemmas.Bool.{true≢false}
use mathlib.Core.Path.{◌≡◌, refl, sym, ap, ◌∙◌, subst}
use mathlib.Core.Bool.{Bool, true, false, cond, not, ◌&&◌, ◌||◌}
use mathlib.Core.List.{List, [], ◌∷◌, ◌++◌}
use Prim.Native.Nat.{ℕ, zero, suc, ◌+◌, ◌-◌, ◌*◌, ◌/◌, ◌%◌, ◌≤◌}
use native.Mathlib.Omega.{arith}
use lib.Dec.{eqb, ltb}
use lib.ListN.{length, length-drop, get_or, take, drop}
use lib.Seq.{length-take-le}
use borrow.Author.Tests.{eq-eqb, eqb-true, lt-ltb, ltb-false, ltb-true}
use Rattle.words.specs.Counts.{same_flags}
use Rattle.words.specs.Flags.{flags_of, window}
use Rattle.words.proofs.flags.Bytes.{flags-drop, flags-take}
use Rattle.words.proofs.theorems.Plain.{equal-same, same-equal}
use Rattle.words.proofs.flags.Windows.{at_take, window-drop, window-ext}
use Rattle.masks.specs.equations.Answer.{given, refused}
use Rattle.masks.specs.Checks.{Check, check, first_failed, limit, place_in, rank, span_checks}
use Rattle.masks.specs.equations.Compare.{eq_of}
use Rattle.masks.specs.Mask.{count_is, count_valid, mask_checks, mask_flags}
use Rattle.masks.specs.Superseding.{agree, fitted, winner_of, superseding_checks, winning, within}
use Rattle.masks.specs.equations.Superseding.{superseding_of}
use Rattle.masks.proofs.statements.SupersedingPlain.{Accepted, Fits, Supersedes, SupersedingPlainly, Winning}
use Rattle.masks.specs.Utils.{zeros}
use Rattle.masks.specs.declared.bitmap.Bitmap.{Bitmap}
use Rattle.masks.specs.declared.superseding.Winner.{Winner}
use Rattle.masks.proofs.theorems.Accepted.{span-accepted}
use Rattle.masks.proofs.refusal.AnswerLaws.{given-number, given-value, refused-number}
use Rattle.masks.proofs.checks.CheckLaws.{SpanAllowed, before, both_left, both_right, check-allowed, earlier-none, failed-ranked}
use Rattle.masks.proofs.checks.CheckLaws.{first-number, is-given}
use Rattle.masks.proofs.checks.CheckLaws.{last-refused, one-check, passed-before}
use Rattle.masks.proofs.bitmap.MaskLaws.{mask-allowed}
use Rattle.masks.proofs.superseding.SupersedingLaws.{apart, first_wins, masks-before, second_wins}

-- ---- the part of the bytes

-- the flags below a cut are those of the whole list
window-below : (l : List Bool) (m k n : ℕ) → k + n ≤ m → window (take m l) k n ≡ window l k n
window-below l m k n h =
    window-ext (take m l) l k k n
    (λ j i. at_take m l (k + j) ∙ ap (λ (t : Bool). t && get_or l (k + j) false) (lt-ltb (k + j) m (omega arith)))

module _ (m : Bitmap) (bytes : List ℕ) (e : Accepted m bytes) where
  abbrev from : ℕ
  from = m.start / 8

  abbrev to : ℕ
  to = (m.start + m.length + 7) / 8

  abbrev part : List ℕ
  part = within from to bytes

  span : SpanAllowed m.start m.length (length bytes)
  span = mask-allowed m bytes e

  part-size : length part ≡ to - from
  part-size =
      let inside : m.start + m.length ≤ 8 * length bytes = span.inside in
      length-take-le (to - from) (drop from bytes) (omega (arith, length-drop from bytes))

  part-flags : mask_flags (fitted m) part ≡ mask_flags m bytes
  part-flags =
      let at : 8 * from + m.start % 8 ≡ m.start = omega arith in
      let short : m.start % 8 + m.length ≤ 8 * (to - from) = omega arith in
      ap (λ (l : List Bool). window l (m.start % 8) m.length)
      (flags-take (to - from) (drop from bytes) ∙ ap (take (8 * (to - from))) (flags-drop from bytes))
      ∙ window-below (drop (8 * from) (flags_of bytes)) (8 * (to - from)) (m.start % 8) m.length short
      ∙ window-drop (flags_of bytes) (8 * from) (m.start % 8) m.length
      ∙ ap (λ (k : ℕ). window (flags_of bytes) k m.length) at

  -- a count is true of the part exactly if it is true of the bytes
  count_kept : count_valid (fitted m) part ≡ count_valid m bytes
  count_kept = ap (λ (l : List Bool). count_is m.unset (zeros l)) part-flags

  count-passed : count_valid m bytes ≡ true
  unfolding mask_checks
  count-passed =
      check-allowed 2 (count_valid m bytes)
      (both_right (span_checks m.start m.length (length bytes)) (check 3 (count_valid m bytes) ∷ []) e)

  part-accepted : Accepted (fitted m) part
  unfolding mask_checks
  part-accepted =
      let short : m.length ≤ limit = span.short in
      sym (passed-before (span_checks (m.start % 8) m.length (length part)) (check 3 (count_valid (fitted m) part) ∷ []) 0 0
      (span-accepted (m.start % 8) m.length (length part) (omega arith) short (omega (arith, part-size))) refl
      (one-check 0 3 true (count_valid (fitted m) part) refl (sym (count_kept ∙ count-passed))))

  fits-part : Fits m bytes part
  fits-part = record {
    size = part-size;
    flags = part-flags;
    start = refl;
    long = refl;
    count = refl;
    serial = refl;
    accepted = part-accepted;
  }

-- ---- which of two masks wins

not_agreed : (x y : Bool) → (not x || y) ≡ false → (x ≡ true) × (y ≡ false)
not_agreed true true e = absurd (let z : ◌≡◌ {A = ℕ} 0 1 = cc e in omega arith)
not_agreed true false e = (refl, refl)
not_agreed false y e = absurd (let z : ◌≡◌ {A = ℕ} 0 1 = cc e in omega arith)

module _ (a : Bitmap) (a_bytes : List ℕ) (b : Bitmap) (b_bytes : List ℕ) where
  abbrev masks : List Check
  masks = mask_checks a a_bytes ++ mask_checks b b_bytes

  abbrev same : Bool
  same = same_flags (mask_flags a a_bytes) (mask_flags b b_bytes)

  both-passed : Accepted a a_bytes → Accepted b b_bytes → 0 ≡ first_failed masks
  both-passed p q = passed-before (mask_checks a a_bytes) (mask_checks b b_bytes) 0 0 (sym p) refl (sym q)

  agreed : a.serial ≡ b.serial → agree a a_bytes b b_bytes ≡ same
  agreed s = ap (λ (y : Bool). not y || same) (eq-eqb a.serial b.serial s)

  differ : (mask_flags a a_bytes ≡ mask_flags b b_bytes → ⊥) → same ≡ false
  differ n = go same refl
    where
      go : (t : Bool) → same ≡ t → t ≡ false
      go true e = absurd (n (same-equal (mask_flags a a_bytes) (mask_flags b b_bytes) e))
      go false e = refl

  apart-passed : Accepted a a_bytes → Accepted b b_bytes → (a.serial ≡ b.serial → ⊥)
      → 0 ≡ first_failed (superseding_checks a a_bytes b b_bytes)
  apart-passed p q n = apart a a_bytes b b_bytes 0 0 0 n (sym (earlier-none 0)) (sym p) (sym q)

  equal-passed : Accepted a a_bytes → Accepted b b_bytes → a.serial ≡ b.serial → same ≡ true
      → 0 ≡ first_failed (superseding_checks a a_bytes b b_bytes)
  unfolding superseding_checks
  equal-passed p q s e =
      passed-before masks (check 14 (agree a a_bytes b b_bytes) ∷ []) 0 0 (both-passed p q) refl
      (one-check 0 14 true (agree a a_bytes b b_bytes) refl (sym (agreed s ∙ e)))

  refused-different : Accepted a a_bytes → Accepted b b_bytes → a.serial ≡ b.serial → (mask_flags a a_bytes ≡ mask_flags b b_bytes → ⊥)
      → refused 14 tt ≡ superseding_of a a_bytes b b_bytes
  unfolding superseding_of superseding_checks
  refused-different p q s n =
      last-refused masks 0 13 (agree a a_bytes b b_bytes) tt (winning a b) (both-passed p q) refl (agreed s ∙ differ n)

  -- 14 is no number of a mask's checks: if the number is 14, these have passed
  fourteen-number : superseding_of a a_bytes b b_bytes ≡ refused 14 tt → 14 ≡ first_failed (superseding_checks a a_bytes b b_bytes)
  unfolding superseding_of
  fourteen-number e = refused-number 14 (first_failed (superseding_checks a a_bytes b b_bytes)) tt tt (winning a b) (sym e)

  masks-three : before 3 masks ≡ true
  unfolding mask_checks span_checks rank place_in
  masks-three = refl

  never-fourteen : (first_failed masks ≡ 0 → ⊥) → first_failed masks ≡ 14 → ⊥
  unfolding rank place_in
  never-fourteen n e = let h : rank 14 ≤ rank 3 = subst (λ (k : ℕ). rank k ≤ rank 3) e (failed-ranked masks 3 masks-three n) in omega arith

  masks-passed : (n : ℕ) → first_failed masks ≡ n → 14 ≡ first_failed (superseding_checks a a_bytes b b_bytes) → first_failed masks ≡ 0
  unfolding superseding_checks
  masks-passed zero e p = e
  masks-passed (suc n) e p =
      let some : first_failed masks ≡ 0 → ⊥ = λ z. (let o : suc n ≡ 0 = sym e ∙ z in omega arith) in
      absurd (never-fourteen some
      (first-number masks (first_failed masks) 13 (agree a a_bytes b b_bytes) (masks-before a a_bytes b b_bytes) refl some ∙ sym p))

  disagree : (t : Bool) → agree a a_bytes b b_bytes ≡ t → first_failed masks ≡ 0
      → 14 ≡ first_failed (superseding_checks a a_bytes b b_bytes) → agree a a_bytes b b_bytes ≡ false
  unfolding superseding_checks
  disagree true e z p =
      let o : ◌≡◌ {A = ℕ} 0 14 =
      passed-before masks (check 14 (agree a a_bytes b b_bytes) ∷ []) 0 0 (sym z) refl
      (one-check 0 14 true (agree a a_bytes b b_bytes) refl (sym e)) ∙ sym p in
      absurd (omega arith)
  disagree false e z p = e

  fourteen-only : superseding_of a a_bytes b b_bytes ≡ refused 14 tt
      → (Accepted a a_bytes × Accepted b b_bytes) × ((a.serial ≡ b.serial) × (mask_flags a a_bytes ≡ mask_flags b b_bytes → ⊥))
  fourteen-only e =
      let number = fourteen-number e in
      let passed = masks-passed (first_failed masks) refl number in
      let told = not_agreed (eqb a.serial b.serial) same (disagree (agree a a_bytes b b_bytes) refl passed number) in (
        (
          both_left (mask_checks a a_bytes) (mask_checks b b_bytes) passed,
          both_right (mask_checks a a_bytes) (mask_checks b b_bytes) passed,
        ),
        (eqb-true a.serial b.serial told.0, λ l. true≢false (sym (equal-same (mask_flags a a_bytes) (mask_flags b b_bytes) l) ∙ told.1)),
      )

  given-part : (p : Winner) → 0 ≡ first_failed (superseding_checks a a_bytes b b_bytes) → p ≡ winning a b
      → superseding_of a a_bytes b b_bytes ≡ given p
  unfolding superseding_of
  given-part p e won =
      sym (ap given won ∙ is-given 0 (first_failed (superseding_checks a a_bytes b b_bytes)) tt (winning a b) e refl)

  supersedes : Supersedes a a_bytes b b_bytes
  unfolding eq_of mask_checks
  supersedes = record {
    first_larger =
        λ p q h. given-part (winner_of false a) (apart-passed p q (λ s. omega arith))
        (first_wins a b (winner_of false a) (omega arith) refl);
    second_larger =
        λ p q h. given-part (winner_of true b) (apart-passed p q (λ s. omega arith)) (second_wins a b (winner_of true b) h refl);
    equal = λ p q s e.
        given-part (winner_of false a) (equal-passed p q s (equal-same (mask_flags a a_bytes) (mask_flags b b_bytes) e))
        (first_wins a b (winner_of false a) (omega arith) refl);
    different = λ p q s n. sym (refused-different p q s n);
    fourteen = fourteen-only;
    eq_unserialled = λ s t. refl;
  }

-- ---- the part that is returned

module _ (a : Bitmap) (a_bytes : List ℕ) (b : Bitmap) (b_bytes : List ℕ)
    (e : 0 ≡ first_failed (superseding_checks a a_bytes b b_bytes)) where
  accepted-masks : first_failed (mask_checks a a_bytes ++ mask_checks b b_bytes) ≡ 0
  unfolding superseding_checks
  accepted-masks = both_left (mask_checks a a_bytes ++ mask_checks b b_bytes) (check 14 (agree a a_bytes b b_bytes) ∷ []) (sym e)

  won-part : (t : Bool) → ltb a.serial b.serial ≡ t → Winning a a_bytes b b_bytes (cond t (winner_of true b) (winner_of false a))
  won-part true h =
      let part = fits-part b b_bytes (both_right (mask_checks a a_bytes) (mask_checks b b_bytes) accepted-masks) in
      record {
        second = λ _. ltb-true a.serial b.serial h;
        first = λ s. absurd (let z : ◌≡◌ {A = ℕ} 0 1 = cc s in omega arith);
        flags = part.flags;
        count = refl;
        serial = refl;
        accepted = part.accepted;
        place = λ x y. refl;
      }
  won-part false h =
      let part = fits-part a a_bytes (both_left (mask_checks a a_bytes) (mask_checks b b_bytes) accepted-masks) in
      record {
        second = λ s. absurd (let z : ◌≡◌ {A = ℕ} 0 1 = cc s in omega arith);
        first = λ _. ltb-false a.serial b.serial h;
        flags = part.flags;
        count = refl;
        serial = refl;
        accepted = part.accepted;
        place = λ x y. refl;
      }

given-won : (a : Bitmap) (a_bytes : List ℕ) (b : Bitmap) (b_bytes : List ℕ) (p : Winner) → superseding_of a a_bytes b b_bytes ≡ given p
    → Winning a a_bytes b b_bytes p
unfolding superseding_of
given-won a a_bytes b b_bytes p e =
    let k = first_failed (superseding_checks a a_bytes b b_bytes) in
    subst (Winning a a_bytes b b_bytes) (sym (given-value k tt p (winning a b) (sym e)))
    (won-part a a_bytes b b_bytes (given-number k tt p (winning a b) (sym e)) (ltb a.serial b.serial) refl)

pub superseding_plainly : SupersedingPlainly
superseding_plainly = record { supersedes = supersedes; won = given-won; fits = λ second m bytes e. (refl, fits-part m bytes e) }
