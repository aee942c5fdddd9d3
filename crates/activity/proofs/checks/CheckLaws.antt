-- The check of a record: its folds, and what it states fact by fact.
use Rattle.std.proofs.Common.{◌≡◌, ◌∙◌, ◌-◌, ◌≤◌, ◌==◌, ◌&&◌, ◌∷◌, [], ℕ, zero, suc, Bool, true, false, List, refl, sym, ap, ap₂, arith}
use Rattle.std.proofs.Common.{eqb, fold, length, take, drop, replicate, length-take, length-drop, eq-eqb}
use Rattle.std.proofs.Math.Bool.{and_assoc, and-true}
use Rattle.std.proofs.Math.Seq.{take_all}
use Rattle.std.proofs.lemmas.Bool.{and_parts, and_from, eqb-true}
use Rattle.std.proofs.lemmas.Bool.Decides.{nat_tests}
use Rattle.std.proofs.lemmas.Nat.{le_or_l}
use Rattle.std.specs.Int.Bits.{bit_or, or_zero_l}
use Rattle.std.specs.List.{zip}
use borrow.Author.Tests.{ne_eqb}
use Rattle.words.specs.Columns.{column_counts}
use Rattle.activity.specs.Checks.{width_fits, place_fits, inside_fits, numbers_fit, all_zero, same_numbers, words_fit, left_by_minutes}
use Rattle.activity.specs.Workers.{Good}
use Rattle.activity.specs.declared.window.ActivityWindow.{ActivityWindow}

-- the two arms of `if t { u } else { false }`
pub first-and : (r t u x : Bool) → r ≡ t → r ≡ true → x ≡ u → x ≡ (t && u)
first-and r t u x e h f = f ∙ ap (λ (y : Bool). y && u) (sym h ∙ e)

pub first-not : (r t u : Bool) → r ≡ t → r ≡ false → false ≡ (t && u)
first-not r t u e h = ap (λ (y : Bool). y && u) (sym h ∙ e)

-- ---- the folds

-- two words joined by `or` are zero if and only if both are
joined-zero : (a b : ℕ) → eqb (bit_or a b) 0 ≡ (eqb a 0 && eqb b 0)
joined-zero zero b = ap (λ (x : ℕ). eqb x 0) (or_zero_l b)
joined-zero (suc a) b =
    ne_eqb (bit_or (suc a) b) 0 (λ h. absurd (omega (arith, le_or_l (suc a) b)))
    ∙ sym (ap (λ (t : Bool). t && eqb b 0) (ne_eqb (suc a) 0 (λ h. absurd (omega arith))))

-- the fold over the words after the kept ones; z joins those before
pub zero-fold : (l : List ℕ) (z : ℕ) → eqb (fold (λ all w. bit_or all w) z l) 0 ≡ (eqb z 0 && all_zero l)
unfolding all_zero
zero-fold [] z = sym (and-true (eqb z 0))
zero-fold (w ∷ l) z = zero-fold l (bit_or z w) ∙ ap (λ (t : Bool). t && all_zero l) (joined-zero z w)
    ∙ and_assoc (eqb z 0) (eqb w 0) (all_zero l)

-- the fold over the counts; s is whether those before were the same
pub same-fold : (a b : List ℕ) (s : Bool) → length a ≡ length b
    → fold (λ (s : Bool) (p : ℕ × ℕ). s && (p.0 == p.1)) s (zip a b) ≡ (s && same_numbers a b)
unfolding same_numbers
same-fold [] [] s h = sym (and-true s)
same-fold [] (n ∷ b) s h = absurd (omega arith)
same-fold (m ∷ a) [] s h = absurd (omega arith)
same-fold (m ∷ a) (n ∷ b) s h = same-fold a b (s && eqb m n) (omega arith) ∙ and_assoc s (eqb m n) (same_numbers a b)

-- ---- what the parts state

pub zero-words : (l : List ℕ) → all_zero l ≡ true → l ≡ replicate (length l) 0
unfolding all_zero
zero-words [] h = refl
zero-words (w ∷ l) h =
    let b : (eqb w 0 ≡ true) × (all_zero l ≡ true) = and_parts (eqb w 0) (all_zero l) h in
    ap₂ (λ (x : ℕ) (t : List ℕ). x ∷ t) (eqb-true w 0 b.0) (zero-words l b.1)

pub zeros-zero : (n : ℕ) → all_zero (replicate n 0) ≡ true
unfolding all_zero
zeros-zero zero = refl
zeros-zero (suc n) = and_from (eqb 0 0) (all_zero (replicate n 0)) (eq-eqb 0 0 refl) (zeros-zero n)

-- if all words after the first m are zero, all after more are
pub zero-later : (l : List ℕ) (m n : ℕ) → m ≤ n → all_zero (drop m l) ≡ true → all_zero (drop n l) ≡ true
unfolding all_zero
zero-later l zero zero p h = h
zero-later l (suc m) zero p h = absurd (omega arith)
zero-later [] m (suc n) p h = refl
zero-later (w ∷ l) zero (suc n) p h = zero-later l zero n (omega arith) (and_parts (eqb w 0) (all_zero l) h).1
zero-later (w ∷ l) (suc m) (suc n) p h = zero-later l m n (omega arith) h

pub same-equal : (a b : List ℕ) → same_numbers a b ≡ true → a ≡ b
unfolding same_numbers
same-equal [] [] h = refl
same-equal [] (n ∷ b) h = cc
same-equal (m ∷ a) [] h = cc
same-equal (m ∷ a) (n ∷ b) h =
    let e : (eqb m n ≡ true) × (same_numbers a b ≡ true) = and_parts (eqb m n) (same_numbers a b) h in
    ap₂ (λ (x : ℕ) (t : List ℕ). x ∷ t) (eqb-true m n e.0) (same-equal a b e.1)

pub same-itself : (a : List ℕ) → same_numbers a a ≡ true
unfolding same_numbers
same-itself [] = refl
same-itself (n ∷ a) = and_from (eqb n n) (same_numbers a a) (eq-eqb n n refl) (same-itself a)

-- at most 511 words are all counted
pub counted-whole : (l : List ℕ) (n : ℕ) → n ≤ 511 → column_counts (take 511 (take n l)) ≡ column_counts (take n l)
counted-whole l n h = ap column_counts (take_all 511 (take n l) (omega (arith, length-take n l)))

-- the words after the kept ones, as they are lent
pub zero-rest : (words : List ℕ) (fill : ℕ) (z : Bool) → length words ≡ 256
    → z ≡ eqb (fold (λ all w. bit_or all w) 0 (take (256 - fill) (drop fill words))) 0 → z ≡ all_zero (drop fill words)
zero-rest words fill z long e =
    let t : take (256 - fill) (drop fill words) ≡ drop fill words =
    take_all (256 - fill) (drop fill words) (omega (arith, length-drop fill words)) in
    e ∙ zero-fold (take (256 - fill) (drop fill words)) 0 ∙ ap all_zero t

module _ (words counts : List ℕ) (fill : ℕ) (z : Bool) (e : z ≡ all_zero (drop fill words)) where
  pub words-yes : (found : List ℕ) (s : Bool) → fill ≤ 256 → z ≡ true → length counts ≡ length found
      → found ≡ column_counts (take 511 (take fill words))
      → s ≡ fold (λ (same : Bool) (p : ℕ × ℕ). same && (p.0 == p.1)) true (zip counts found) → s ≡ words_fit words counts fill
  unfolding words_fit
  words-yes found s h y many f g =
      first-and z (all_zero (drop fill words)) (same_numbers counts (column_counts (take fill words))) s e y
      (g ∙ same-fold counts found true many ∙ ap (same_numbers counts) (f ∙ counted-whole words fill (omega arith)))

  pub words-no : z ≡ false → z ≡ words_fit words counts fill
  unfolding words_fit
  words-no y = y ∙ first-not z (all_zero (drop fill words)) (same_numbers counts (column_counts (take fill words))) e y

pub width_of : (width : ℕ) → width_fits width ≡ true → (1 ≤ width) × (width ≤ 256)
unfolding width_fits
width_of width h = (grind (arith, nat_tests), grind (arith, nat_tests))

pub fill-most : (place fill width : ℕ) → numbers_fit place fill width ≡ true → fill ≤ 256
unfolding numbers_fit inside_fits width_fits
fill-most place fill width h = grind (arith, nat_tests)

-- ---- the whole check

pub good_of : (a : ActivityWindow) → left_by_minutes a ≡ true → Good a
unfolding left_by_minutes numbers_fit inside_fits place_fits width_fits words_fit
good_of a h =
    let parts = and_parts (numbers_fit a.place a.fill a.width) (words_fit a.words a.counts a.fill) h in
    let n : numbers_fit a.place a.fill a.width ≡ true = parts.0 in
    let w = and_parts (all_zero (drop a.fill a.words)) (same_numbers a.counts (column_counts (take a.fill a.words))) parts.1 in
    record {
      some = grind (arith, nat_tests);
      most = grind (arith, nat_tests);
      inside = grind (arith, nat_tests);
      within = grind (arith, nat_tests);
      after = λ l. grind (arith, nat_tests);
      unused = w.0;
      counted = same-equal a.counts (column_counts (take a.fill a.words)) w.1;
    }

pub good-passes : (a : ActivityWindow) → Good a → left_by_minutes a ≡ true
unfolding left_by_minutes numbers_fit inside_fits place_fits width_fits words_fit
good-passes a g =
    let n : numbers_fit a.place a.fill a.width ≡ true = grind (arith, nat_tests, g.some, g.most, g.inside, g.within, g.after) in
    and_from (numbers_fit a.place a.fill a.width) (words_fit a.words a.counts a.fill) n
    (and_from (all_zero (drop a.fill a.words)) (same_numbers a.counts (column_counts (take a.fill a.words))) g.unused
    (ap (λ (l : List ℕ). same_numbers l (column_counts (take a.fill a.words))) g.counted
    ∙ same-itself (column_counts (take a.fill a.words))))
