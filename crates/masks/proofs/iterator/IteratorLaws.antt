-- The cursor over single flags of a span, and the length of the run of equal flags at its place, word by word. For all cursors over flags.
use mathlib.Core.Path.{◌≡◌, refl, sym, ap, ap₂, ◌∙◌}
use mathlib.Core.Bool.{Bool, false, cond}
use mathlib.Core.List.{List, ◌++◌}
use Prim.Native.Nat.{ℕ, suc, ◌+◌, ◌-◌, ◌≤◌, ◌<◌, min}
use native.Mathlib.Nat.{add-zero}
use native.Mathlib.Omega.{arith}
use lib.Dec.{eqb}
use lib.ListN.{length, take, drop, get_or, length-drop, take-append-drop}
use lib.Seq.{drop-drop}
use borrow.Author.Tests.{lt-ltb, le-ltb, ne_eqb}
use Rattle.words.specs.Ends.{leading}
use Rattle.words.specs.Flags.{bits, flags_of, window}
use Rattle.words.proofs.ends.EndLaws.{leading_le, leading-some, leading-all}
use Rattle.words.proofs.theorems.Plain.{window-part}
use Rattle.words.proofs.flags.Windows.{length-window, window-cut, in_window, at_in}
use Rattle.masks.specs.Cursor.{item, ended}
use Rattle.masks.specs.Iterator.{flag_step, leading_from, moved_to}
use Rattle.masks.specs.declared.iterator.BitmapIter.{BitmapIter}

-- ---- a new cursor

-- over a flag or more it is the second of the two
pub first-some : (a b : BitmapIter) (n : ℕ) → cond (eqb (suc n) 0) a b ≡ b
first-some a b n = ap (λ (t : Bool). cond t a b) (ne_eqb (suc n) 0 (λ h. omega arith))

-- ---- the two answers of a cursor

pub a-flag : (bytes : List ℕ) (c : BitmapIter) (k : ℕ) (x : Bool) → k < c.length - c.place
    → x ≡ get_or (flags_of bytes) (c.start + (c.place + k)) false
    → item x (moved_to c (c.place + k + 1)) ≡ flag_step bytes c k
unfolding flag_step
a-flag bytes c k x h e =
    let i : c.place + k < c.length = omega arith in
    rw (lt-ltb (c.place + k) c.length i)
    (ap (λ (y : Bool). item y (moved_to c (c.place + k + 1))) (e ∙ sym (at_in (flags_of bytes) c.start c.length (c.place + k) i)))

pub no_flag : (bytes : List ℕ) (c : BitmapIter) (k : ℕ) → c.place ≤ c.length → c.length - c.place ≤ k
    → ended (moved_to c c.length) ≡ flag_step bytes c k
unfolding flag_step
no_flag bytes c k p h = rw (le-ltb (c.place + k) c.length (omega arith))

-- ---- the length of a run of equal flags

module _ (l : List Bool) (x : Bool) (at k r : ℕ) (inside : at + k ≤ length l) (e : r ≡ leading x (window l at k)) where
  parts : drop at l ≡ window l at k ++ drop (at + k) l
  parts = sym (take-append-drop k (drop at l)) ∙ ap₂ (λ (s t : List Bool). s ++ t) (sym (window-part l at k inside)) (drop-drop k at l)

  -- one of the k flags at `at` differs: the run ends at the first that does
  pub some_alike : r < k → leading_from x l at ≡ r
  unfolding leading_from
  some_alike h = ap (leading x) parts ∙ leading-some x (window l at k) (drop (at + k) l) (omega (arith, length-window l at k)) ∙ sym e

  no_more : r ≤ k
  no_more = omega (arith, leading_le x (window l at k), length-window l at k)

  -- all of them are equal: the run goes on after them
  pub every-alike : k ≤ r → leading_from x l at ≡ r + leading_from x l (at + r)
  unfolding leading_from
  every-alike h =
      let z : k ≡ r = omega (arith, no_more) in
      ap (leading x) parts ∙ leading-all x (window l at k) (drop (at + k) l) (omega (arith, length-window l at k))
      ∙ ap₂ (λ (i j : ℕ). i + leading x (drop (at + j) l)) (length-window l at k ∙ z) z

-- the flags from `place` to `at` all equal x, in a span of `size` flags
pub record Alike (l : List Bool) (x : Bool) (size place at : ℕ) : Type 0 where
  pub low : place ≤ at
  pub inside : at ≤ size
  pub sum : at + leading_from x l at ≡ place + leading_from x l place

pub alike-none : (l : List Bool) (x : Bool) (size place : ℕ) → place ≤ size → Alike l x size place place
alike-none l x size place h = record { low = omega arith; inside = h; sum = refl }

pub at-end : (l : List Bool) (x : Bool) (at : ℕ) → length l ≤ at → leading_from x l at ≡ 0
unfolding leading_from
at-end l x at h = omega (arith, leading_le x (drop at l), length-drop at l)

pub alike-done : (l : List Bool) (x : Bool) (start size place at : ℕ) → Alike (window l start size) x size place at → size ≤ at
    → at - place ≡ leading_from x (window l start size) place
alike-done l x start size place at a h =
    omega (arith, a.low, a.sum, at-end (window l start size) x at (omega (arith, length-window l start size)))

pub alike-whole : (l : List Bool) (x : Bool) (start size place at : ℕ) → Alike (window l start size) x size place at → size ≤ at
    → size - place ≡ leading_from x (window l start size) place
alike-whole l x start size place at a h = omega (arith, a.inside, alike-done l x start size place at a h)

-- the next k flags of the span, which are the first k flags of a word that was read
module _ (l : List Bool) (x : Bool) (start size place at k w r : ℕ) (a : Alike (window l start size) x size place at)
    (most : k ≡ min (size - at) 64) (before : at < size) (flags : bits 64 w ≡ window l (start + at) 64)
    (same : r ≡ leading x (take k (bits 64 w))) where
  fits : at + k ≤ length (window l start size)
  fits = omega (arith, length-window l start size)

  in_span : r ≡ leading x (window (window l start size) at k)
  in_span =
      same ∙ ap (λ (t : List Bool). leading x (take k t)) flags
      ∙ ap (leading x) (window-cut l (start + at) 64 0 k (omega arith) ∙ ap (λ (y : ℕ). window l y k) (add-zero (start + at))
      ∙ sym (in_window l start size at k (omega arith)))

  alike-most : r ≤ k
  alike-most = no_more (window l start size) x at k r fits in_span

  pub alike-stop : r < k → at - place + r ≡ leading_from x (window l start size) place
  alike-stop h = omega (arith, a.low, a.sum, some_alike (window l start size) x at k r fits in_span h)

  alike-on : k ≤ r → Alike (window l start size) x size place (at + k)
  alike-on h =
      let same : r ≡ k = omega (arith, alike-most) in
      record {
        low = omega (arith, a.low);
        inside = omega arith;
        sum = omega (arith, a.sum, rw same at (every-alike (window l start size) x at k r fits in_span h));
      }

  pub alike-more : k ≤ r → 64 < size - at → Alike (window l start size) x size place (at + 64)
  alike-more h more = let all : k ≡ 64 = omega arith in rw all at (alike-on h)

  pub alike-last : k ≤ r → size - at ≤ 64 → size - place ≡ leading_from x (window l start size) place
  alike-last h few = alike-whole l x start size place (at + k) (alike-on h) (omega arith)

-- a word was read at `place`, and one of its first k flags differs from x: the run ends before that flag
pub word-alike : (l : List Bool) (x : Bool) (start size place k w r : ℕ) → place + k ≤ size
    → take k (bits 64 w) ≡ window l (start + place) k
    → r ≡ leading x (take k (bits 64 w)) → r < k → r ≡ leading_from x (window l start size) place
word-alike l x start size place k w r inside p e h =
    sym (some_alike (window l start size) x place k r (omega (arith, length-window l start size))
    (e ∙ ap (leading x) (p ∙ sym (in_window l start size place k inside))) h)

-- a word was read at `place`, its first k flags all equal x, and they are the last of the span
pub word-all-alike : (l : List Bool) (x : Bool) (start size place k w r : ℕ) → place + k ≡ size
    → take k (bits 64 w) ≡ window l (start + place) k
    → r ≡ leading x (take k (bits 64 w)) → k ≤ r → k ≡ leading_from x (window l start size) place
word-all-alike l x start size place k w r all p e h =
    let m : List Bool = window l start size in
    let inside : place + k ≤ length m = omega (arith, length-window l start size) in
    let same : r ≡ leading x (window m place k) = e ∙ ap (leading x) (p ∙ sym (in_window l start size place k (omega arith))) in
    omega (
      arith,
      every-alike m x place k r inside same h,
      no_more m x place k r inside same,
      at-end m x (place + r) (omega (arith, length-window l start size)),
    )

pub alike-inside : (l : List Bool) (x : Bool) (start size place r : ℕ) → place ≤ size → r ≡ leading_from x (window l start size) place
    → place + r ≤ size
unfolding leading_from
alike-inside l x start size place r h e =
    omega (arith, leading_le x (drop place (window l start size)), length-drop place (window l start size), length-window l start size)
