-- The ones of 64 columns, some rows at a time, and the zeros that they leave.
use Rattle.std.proofs.Common.{◌≡◌, refl, sym, ap, ap₂, ◌∙◌, ℕ, zero, suc, ◌+◌, ◌-◌, ◌*◌, ◌<◌, ◌≤◌, inl, inr, Bool, false, List, ◌∷◌, ◌++◌}
use Rattle.std.proofs.Common.{length, get_or, take, min, replicate, ext_get_or, arith, length-take-le, get_or-take, take_all}
use Rattle.std.proofs.Math.Nat.{add-mul}
use Rattle.std.proofs.lemmas.Bool.{cases_lt}
use Rattle.std.proofs.lemmas.List.{get_or-replicate}
use Rattle.words.specs.Columns.{column as column', column_counts}
use Rattle.words.specs.Flags.{count, over, window, word_flags}
use Rattle.words.proofs.columns.ColumnLaws.{at-columns, length-column}
use Rattle.words.proofs.counts.Counting.{count-append, count-le}
use Rattle.words.proofs.flags.Windows.{at_in, length_over}
use Rattle.words.proofs.theorems.Plain.{at-after, at-over, count-empty}
use Rattle.words.proofs.transpose.TransposeLaws.{at-column}
use Rattle.masks.specs.Checks.{limit}
use Rattle.masks.specs.Utils.{zeros}
use Rattle.masks.proofs.utils.PartLaws.{zeros-rest}
use Rattle.grids.specs.Grid.{column_flags, column_zeros, listing}
use Rattle.grids.specs.Workers.{OnesOf, Renewed, RowsLoaded, every}
use Rattle.grids.proofs.columns.ColumnLaws.{flag-at, length-column as length-flags}
use Rattle.grids.proofs.grid.ListingLaws.{at-listing, length-listing, listing-ext}

-- ---- rows in two parts

listing-append : {A : Type 0} (a b : ℕ) (f : ℕ → A) → listing (a + b) f ≡ listing a f ++ listing b (λ i. f (a + i))
unfolding listing
listing-append zero b f =
    let e : zero + b ≡ b = omega arith in
    ap (λ (n : ℕ). listing n f) e ∙ listing-ext b _ _ (λ i p. let g : i ≡ zero + i = omega arith in ap f g)
listing-append (suc a) b f =
    let e : suc a + b ≡ suc (a + b) = omega arith in
    ap (λ (n : ℕ). listing n f) e ∙ ap (λ (l : List _). f 0 ∷ l) (listing-append a b (λ (i : ℕ). f (suc i))
    ∙ ap (λ (l : List _). listing a (λ (i : ℕ). f (suc i)) ++ l)
    (listing-ext b _ _ (λ i p. let g : suc (a + i) ≡ suc a + i = omega arith in ap f g)))

every-more : (l : List Bool) (first step a b : ℕ) → every l first step 0 (a + b) ≡ every l first step 0 a ++ every l first step a b
every-more l first step a b =
    listing-append a b (λ (j : ℕ). get_or l (first + (0 + j) * step) false)
    ∙ ap (λ (m : List Bool). every l first step 0 a ++ m)
    (listing-ext b _ _ (λ i p. let e : 0 + (a + i) ≡ a + i = omega arith in ap (λ (j : ℕ). get_or l (first + j * step) false) e))

length-every : (l : List Bool) (first step from n : ℕ) → length (every l first step from n) ≡ n
length-every l first step from n = length-listing n (λ (j : ℕ). get_or l (first + (from + j) * step) false)

-- ---- a batch of rows

module _ (F : List Bool) (first distance row height : ℕ) (old words : List ℕ) (room : height ≤ length old) (few : height ≤ 511)
    (load : RowsLoaded F (first + row * distance) distance height old words) where
  long : length (take height words) ≡ height
  long = length-take-le height words (omega (arith, load.long))

  loaded-column : (c : ℕ) → c < 64 → column' (take height words) c ≡ every F (first + c) distance row height
  loaded-column c p =
      ext_get_or false (column' (take height words) c) (every F (first + c) distance row height)
      (length-column (take height words) c ∙ long ∙ sym (length-every F (first + c) distance row height))
      (λ j q.
      let h : j < height = omega (arith, length-column (take height words) c, long) in
      let e : first + row * distance + j * distance + c ≡ first + c + (row + j) * distance = omega (arith, add-mul row j distance) in
      at-column (take height words) c j (omega (arith, long))
      ∙ ap (λ (w : ℕ). get_or (word_flags w) c false) (get_or-take height words j 0 h)
      ∙ ap (λ (t : List Bool). get_or t c false) (load.loaded j h) ∙ at_in F (first + row * distance + j * distance) 64 c p
      ∙ ap (λ (k : ℕ). get_or F k false) e ∙ sym (at-listing height _ j false h))

  part-count : (part : List ℕ) → part ≡ column_counts (take 511 (take height words)) → (c : ℕ) → c < 64
      → get_or part c 0 ≡ count (every F (first + c) distance row height)
  part-count part e c p =
      ap (λ (t : List ℕ). get_or t c 0) e
      ∙ ap (λ (t : List ℕ). get_or (column_counts t) c 0) (take_all 511 (take height words) (omega (arith, long)))
      ∙ at-columns (take height words) c p ∙ ap count (loaded-column c p)

  module _ (part ones : List ℕ) (is : part ≡ column_counts (take 511 (take height words))) (before : OnesOf F first distance row ones) where
    pub few-ones : row ≤ limit → (c : ℕ) → c < 64 → get_or ones c 0 + get_or part c 0 ≤ 2 * limit
    few-ones small c p =
        let a = before.each c p in
        let b = part-count part is c p in
        omega (
          arith,
          a,
          b,
          count-le (every F (first + c) distance 0 row),
          count-le (every F (first + c) distance row height),
          length-every F (first + c) distance 0 row,
          length-every F (first + c) distance row height,
        )

    pub batch-added : (new : List ℕ) → length new ≡ 64 → ((c : ℕ) → c < 64 → get_or new c 0 ≡ get_or ones c 0 + get_or part c 0)
        → OnesOf F first distance (row + height) new
    batch-added new size add = record {
      long = size;
      each = λ c p.
          add c p ∙ ap₂ (λ (x y : ℕ). x + y) (before.each c p) (part-count part is c p)
          ∙ sym (ap count (every-more F (first + c) distance row height) ∙ count-append _ _);
    }

pub no_ones : (F : List Bool) (first distance : ℕ) → OnesOf F first distance 0 (replicate 64 0)
unfolding listing
no_ones F first distance = record { long = refl; each = λ c p. get_or-replicate 64 c 0 0 p ∙ sym count-empty }

-- ---- zeros

place : (start column p r columns : ℕ) → column ≤ p → start + column + (p - column) + (0 + r) * columns ≡ start + p + r * columns
place start column p r columns a =
    let e : start + column + (p - column) ≡ start + p = omega arith in
    let f : 0 + r ≡ r = omega arith in
    ap₂ (λ (x y : ℕ). x + y * columns) e f

pub ones-few : (F : List Bool) (first distance n : ℕ) (ones : List ℕ) → OnesOf F first distance n ones → (c : ℕ) → c < 64
    → get_or ones c 0 ≤ n
ones-few F first distance n ones t c p =
    let e = t.each c p in
    omega (arith, e, count-le (every F (first + c) distance 0 n), length-every F (first + c) distance 0 n)

module _ (F : List Bool) (start rows columns column : ℕ) (ones : List ℕ) (t : OnesOf F (start + column) columns rows ones) where
  abbrev l : List Bool
  l = window F start (rows * columns)

  column-is : (p : ℕ) → column ≤ p → p < columns → every F (start + column + (p - column)) columns 0 rows ≡ column_flags l rows columns p
  unfolding column_flags
  column-is p a b =
      listing-ext rows _ _ (λ r q.
      let e : start + column + (p - column) + (0 + r) * columns ≡ start + p + r * columns = place start column p r columns a in
      ap (λ (k : ℕ). get_or F k false) e ∙ flag-at F start rows columns p b r q)

  zeros-at : (p : ℕ) → column ≤ p → p < columns → p < column + 64
      → rows - get_or ones (p - column) 0 ≡ get_or (column_zeros l rows columns) p 0
  unfolding column_zeros
  zeros-at p a b c =
      let flags : every F (start + column + (p - column)) columns 0 rows ≡ column_flags l rows columns p = column-is p a b in
      zeros-rest (column_flags l rows columns p) rows (get_or ones (p - column) 0) (length-flags F start rows columns p b)
      (t.each (p - column) (omega arith) ∙ ap count flags)
      ∙ sym (at-listing columns (λ (k : ℕ). zeros (column_flags l rows columns k)) p 0 b)

  pub band-written : (old new : List ℕ) → Renewed (λ (p : ℕ). rows - get_or ones (p - column) 0) column (min columns (column + 64)) old new
      → Renewed (λ (p : ℕ). get_or (column_zeros l rows columns) p 0) column (min columns (column + 64)) old new
  band-written old new r = record {
    long = r.long;
    inside = λ p a b. r.inside p a b ∙ zeros-at p a (omega arith) (omega arith);
    before = r.before;
    after = r.after;
  }

pub all_written : (old new m : List ℕ) (n : ℕ) → length m ≡ n → n ≤ length old → Renewed (λ (p : ℕ). get_or m p 0) 0 n old new
    → new ≡ over old m
all_written old new m n size room r =
    ext_get_or 0 new (over old m) (r.long ∙ sym (length_over old m)) (λ p q. elim (cases_lt p n) [
      | inl h ↦ r.inside p (omega arith) h ∙ sym (at-over old m p 0 (omega arith) (omega (arith, r.long)))
      | inr h ↦ r.after p h ∙ sym (at-after old m p 0 (omega arith))
    ])

pub length-zeros : (l : List Bool) (rows columns : ℕ) → length (column_zeros l rows columns) ≡ columns
unfolding column_zeros
length-zeros l rows columns = length-listing columns (λ (k : ℕ). zeros (column_flags l rows columns k))
