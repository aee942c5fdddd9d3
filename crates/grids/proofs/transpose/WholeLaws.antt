-- Grids with one row, with one column and with none, and an output to whose zeros all its flags are joined.
use Rattle.std.proofs.Common.{◌≡◌, refl, sym, ap, ◌∙◌, subst, ℕ, zero, suc, ◌+◌, ◌*◌, ◌/◌, ◌%◌, ◌<◌, ◌≤◌, ◌⊎◌, inl, inr, Bool, true, false}
use Rattle.std.proofs.Common.{List, [], ◌∷◌, length, get_or, ext_get_or, arith}
use Rattle.std.proofs.Math.Nat.{div-lt_iff_lt-mul, mod-lt}
use Rattle.std.proofs.lemmas.Bool.{cases_lt}
use Rattle.std.proofs.lemmas.List.{get_or_past}
use Rattle.std.proofs.lemmas.Nat.{div-add-mod'}
use Rattle.words.specs.Flags.{copies, over, window}
use Rattle.words.specs.Loops.{whole_words}
use Rattle.words.proofs.flags.Windows.{at_copies, length-copies, length_over, over_none}
use Rattle.words.proofs.theorems.Plain.{at-after, at-over, at-whole, length_whole}
use Rattle.grids.specs.Workers.{BlockJoined, IsSet}
use Rattle.grids.specs.Grid.{transposed}
use Rattle.grids.proofs.transpose.BlockLaws.{place-inside}
use Rattle.grids.proofs.grid.FlagLaws.{flag-transposed, length-transposed}

-- ---- grids with one row or one column, and with none

first-row : (l : List Bool) (columns : ℕ) → length l ≡ 1 * columns → transposed l 1 columns ≡ l
first-row l columns size = ext_get_or false (transposed l 1 columns) l (length-transposed l 1 columns ∙ omega (arith, size)) (λ i p.
    let q : i < columns = omega (arith, length-transposed l 1 columns) in
    let e : i ≡ i * 1 + 0 = omega arith in
    let f : 0 * columns + i ≡ i = omega arith in
    ap (λ (k : ℕ). get_or (transposed l 1 columns) k false) e ∙ flag-transposed l 1 columns 0 i (omega arith) q
    ∙ ap (λ (k : ℕ). get_or l k false) f)

pub one-row : (l : List Bool) (rows columns : ℕ) → length l ≡ rows * columns → rows ≡ 1 → transposed l rows columns ≡ l
one-row l rows columns size e =
    subst (λ (k : ℕ). transposed l k columns ≡ l) (sym e) (first-row l columns (size ∙ ap (λ (k : ℕ). k * columns) e))

first-column : (l : List Bool) (rows : ℕ) → length l ≡ rows * 1 → transposed l rows 1 ≡ l
first-column l rows size = ext_get_or false (transposed l rows 1) l (length-transposed l rows 1 ∙ omega (arith, size)) (λ i p.
    let q : i < rows = omega (arith, length-transposed l rows 1) in
    let e : i ≡ 0 * rows + i = omega arith in
    let f : i * 1 + 0 ≡ i = omega arith in
    ap (λ (k : ℕ). get_or (transposed l rows 1) k false) e ∙ flag-transposed l rows 1 i 0 q (omega arith)
    ∙ ap (λ (k : ℕ). get_or l k false) f)

pub one-column : (l : List Bool) (rows columns : ℕ) → length l ≡ rows * columns → columns ≡ 1 → transposed l rows columns ≡ l
one-column l rows columns size e =
    subst (λ (k : ℕ). transposed l rows k ≡ l) (sym e) (first-column l rows (size ∙ ap (λ (k : ℕ). rows * k) e))

empty : (l : List Bool) → length l ≡ 0 → l ≡ []
empty [] e = refl
empty (x ∷ l) e = absurd (omega arith)

whole-empty : whole_words [] ≡ []
unfolding whole_words window
whole-empty = refl

-- written over an output, a grid without flags changes nothing
pub none-written : (old l : List Bool) (rows columns : ℕ) → rows * columns ≡ 0 → old ≡ over old (whole_words (transposed l rows columns))
none-written old l rows columns e =
    let f : columns * rows ≡ 0 = omega arith in
    let none : transposed l rows columns ≡ [] = empty _ (length-transposed l rows columns ∙ f) in
    sym (ap (λ (t : List Bool). over old (whole_words t)) none ∙ ap (over old) whole-empty ∙ over_none old)

-- ---- all flags joined to zeros

-- flags that are set in the same places are the same
same : (x y : Bool) → (x ≡ true → y ≡ true) → (y ≡ true → x ≡ true) → x ≡ y
same true y f g = sym (f refl)
same false true f g = g refl
same false false f g = refl

not-set : (x : Bool) → x ≡ false → x ≡ true → ⊥
not-set x e f = let g : false ≡ true = sym e ∙ f in let z : ◌≡◌ {A = ℕ} 0 1 = cc g in omega arith

positive : (rows columns p : ℕ) → p < rows * columns → 0 < rows
positive zero columns p h = absurd (omega arith)
positive (suc rows) columns p h = omega arith

module _ (l : List Bool) (rows columns : ℕ) (old zeros new : List Bool)
    (fill : zeros ≡ over old (whole_words (copies (rows * columns) false)))
    (join : BlockJoined l rows columns 0 rows 0 columns zeros new) where
  abbrev n : ℕ
  n = rows * columns

  abbrev t : List Bool
  t = transposed l rows columns

  long-t : length t ≡ n
  long-t = length-transposed l rows columns ∙ omega arith

  -- flag p of m, padded to words and written over the output
  padded : (m : List Bool) (p : ℕ) → p < length m → p < length old → get_or (over old (whole_words m)) p false ≡ get_or m p false
  padded m p q h = at-over old (whole_words m) p false (omega (arith, length_whole m)) h ∙ at-whole m p

  -- the flags were zeros
  zero-at : (p : ℕ) → p < length old → p < n → get_or zeros p false ≡ false
  zero-at p h q =
      ap (λ (m : List Bool). get_or m p false) fill ∙ padded (copies n false) p (omega (arith, length-copies n false)) h
      ∙ at_copies n false p q

  -- a place past them is the same before and after
  past : (p : ℕ) → p < length old → n ≤ p → get_or zeros p false ≡ get_or (over old (whole_words t)) p false
  past p h q = ap (λ (m : List Bool). get_or m p false) fill ∙ elim (cases_lt p (64 * ((n + 63) / 64))) [
    | inl w ↦
        at-over old (whole_words (copies n false)) p false (omega (arith, length_whole (copies n false), length-copies n false)) h
        ∙ at-whole (copies n false) p ∙ get_or_past (copies n false) p false (omega (arith, length-copies n false))
        ∙ sym (at-over old (whole_words t) p false (omega (arith, length_whole t, long-t)) h ∙ at-whole t p
        ∙ get_or_past t p false (omega (arith, long-t)))
    | inr w ↦
        at-after old (whole_words (copies n false)) p false (omega (arith, length_whole (copies n false), length-copies n false))
        ∙ sym (at-after old (whole_words t) p false (omega (arith, length_whole t, long-t)))
  ]

  -- each flag of the transposed grid was joined
  found : (p : ℕ) → p < length old → p < n → IsSet t p → IsSet new p
  found p h q s =
      let some : 0 < rows = positive rows columns p q in
      let whole : p / rows * rows + p % rows ≡ p = div-add-mod' p rows in
      let c : p / rows < columns = (div-lt_iff_lt-mul some).1 (omega arith) in
      let r : p % rows < rows = mod-lt p some in
      let room : p / rows * rows + p % rows < length zeros =
      omega (arith, ap length fill, length_over old (whole_words (copies n false))) in
      subst (IsSet new) whole
      (join.put (p % rows) (p / rows) (omega arith) r r (omega arith) c c room
      (sym (flag-transposed l rows columns (p % rows) (p / rows) r c) ∙ ap (λ (k : ℕ). get_or t k false) whole ∙ s))

  under : (p : ℕ) → p < length old → (p < n) ⊎ (n ≤ p) → IsSet new p → IsSet (over old (whole_words t)) p
  under p h (inl q) s = elim (join.only p s) [
    | inl f ↦ absurd (not-set _ (zero-at p h q) f)
    | inr f ↦ padded t p (omega (arith, long-t)) h ∙ ap (λ (k : ℕ). get_or t k false) f.1.1.1.1.0
        ∙ flag-transposed l rows columns f.0 f.1.0 f.1.1.0 f.1.1.1.0 ∙ f.1.1.1.1.1
  ]
  under p h (inr q) s = elim (join.only p s) [
    | inl f ↦ sym (past p h q) ∙ f
    | inr f ↦
        let g : f.1.0 * rows + f.0 < columns * rows = place-inside columns rows f.1.0 f.0 f.1.1.1.0 f.1.1.0 in
        absurd (omega (arith, f.1.1.1.1.0))
  ]

  above : (p : ℕ) → p < length old → (p < n) ⊎ (n ≤ p) → IsSet (over old (whole_words t)) p → IsSet new p
  above p h (inl q) s = found p h q (sym (padded t p (omega (arith, long-t)) h) ∙ s)
  above p h (inr q) s = join.kept p (past p h q ∙ s)

  pub all_joined : new ≡ over old (whole_words t)
  all_joined =
      let long : length new ≡ length (over old (whole_words t)) =
      join.long ∙ ap length fill ∙ length_over old (whole_words (copies n false)) ∙ sym (length_over old (whole_words t)) in
      ext_get_or false new (over old (whole_words t)) long (λ p q.
      let h : p < length old = omega (arith, long, length_over old (whole_words t)) in
      same _ _ (under p h (cases_lt p n)) (above p h (cases_lt p n)))
