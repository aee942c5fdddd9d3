-- Flags of a word appended to the word in progress, which has room for them. For the pushes of a word's flags.
use Rattle.std.proofs.lemmas.Bool.{cases_lt}
use mathlib.Core.Path.{◌≡◌, refl, sym, ap, ap₂, ◌∙◌}
use mathlib.Core.Bool.{Bool, true, false, ◌||◌}
use mathlib.Core.List.{List, [], ◌++◌, zip_with}
use mathlib.Core.Logic.{⊎_elim}
use Prim.Native.Nat.{ℕ, ◌+◌, ◌-◌, ◌*◌, ◌/◌, ◌%◌, ◌^◌, ◌≤◌, ◌<◌}
use native.Mathlib.Omega.{arith}
use lib.ListN.{length, take, get_or, length-append, get_or-append}
use lib.Seq.{get_or-append-add}
use Rattle.words.specs.Flags.{bits, copies, count, window, word_of}
use Rattle.words.proofs.flags.Bits.{length-bits}
use Rattle.words.proofs.merge.Merging.{or-concat}
use Rattle.words.proofs.flags.Windows.{window-all, window-ext, at_in, word_value}
use Rattle.masks.specs.Builder.{Filling, filling, rebuilt, in_progress, appended, none_from}
use Rattle.masks.specs.Frozen.{packed, over_from}
use Rattle.masks.specs.Workers.{Inside}
use Rattle.masks.specs.declared.builder.BitmapBuilder.{BitmapBuilder}
use Rattle.masks.proofs.builder.AppendLaws.{Parts, appended-grown, length-progress, low-window, no-count, no_bytes}
use Rattle.masks.proofs.bitmap_ops.FrozenLaws.{over_from-none}
use Rattle.masks.proofs.utils.PartLaws.{length-low}

-- ---- a builder that a constructor returns

pub rebuilt-way : (r b : BitmapBuilder) (bytes : List ℕ) (f : Filling) → r ≡ b → filling b bytes ≡ f → filling r bytes ≡ f
rebuilt-way r b bytes f e h = ap (λ (x : BitmapBuilder). filling x bytes) e ∙ h

-- ---- windows of two lists joined

-- a window past the first list is one of the second
pub window-after : (p t : List Bool) (k n : ℕ) → window (p ++ t) (length p + k) n ≡ window t k n
window-after p t k n = window-ext (p ++ t) t (length p + k) k n (λ j h.
    let e : length p + k + j ≡ length p + (k + j) = omega arith in
    ap (λ (x : ℕ). get_or (p ++ t) x false) e ∙ get_or-append-add p t (k + j) false)

-- zeros after the second list make no difference
window-padded : (p t : List Bool) (n : ℕ) → window (p ++ window t 0 n) 0 n ≡ window (p ++ t) 0 n
window-padded p t n = window-ext (p ++ window t 0 n) (p ++ t) 0 0 n (λ j h. ⊎_elim
    (λ (l : 0 + j < length p). get_or-append p (window t 0 n) false (0 + j) l ∙ sym (get_or-append p t false (0 + j) l))
    (λ (l : length p ≤ 0 + j).
    let e : 0 + j ≡ length p + (j - length p) = omega arith in
    let z : 0 + (j - length p) ≡ j - length p = omega arith in
    ap (λ (x : ℕ). get_or (p ++ window t 0 n) x false) e ∙ get_or-append-add p (window t 0 n) (j - length p) false
    ∙ at_in t 0 n (j - length p) (omega arith) ∙ ap (λ (x : ℕ). get_or t x false) z
    ∙ sym (ap (λ (x : ℕ). get_or (p ++ t) x false) e ∙ get_or-append-add p t (j - length p) false))
    (cases_lt (0 + j) (length p)))

-- ---- the word with the new flags

module _ (b : BitmapBuilder) (bytes : List ℕ) (word v low k : ℕ) (few : k ≤ 64) (flags : bits 64 v ≡ window (take k (bits 64 word)) 0 64)
    (merged : bits 64 low ≡ window (take (b.length % 64) (bits 64 b.word) ++ bits 64 v) 0 64) where
  row-flags : bits 64 low ≡ window (in_progress b ++ take k (bits 64 word)) 0 64
  unfolding in_progress
  row-flags = merged ∙ ap (λ (t : List Bool). window (take (b.length % 64) (bits 64 b.word) ++ t) 0 64) flags
      ∙ window-padded (take (b.length % 64) (bits 64 b.word)) (take k (bits 64 word)) 64

  row-long : length (in_progress b ++ take k (bits 64 word)) ≡ b.length % 64 + k
  row-long = length-append (in_progress b) (take k (bits 64 word)) ∙ ap₂ (λ (x y : ℕ). x + y) (length-progress b) (length-low k word few)

  -- the word in progress has room for all the new flags
  pub push-short : low < 2 ^ 64 → b.length % 64 + k < 64
      → filling (rebuilt b (b.length + k) low b.ones) bytes ≡ appended (filling b bytes) (take k (bits 64 word))
  push-short fits less =
      let p : Parts (filling b bytes) (take k (bits 64 word)) 0 [] (in_progress b ++ take k (bits 64 word)) =
      record { row = refl; whole = refl; less = omega (arith, row-long) } in
      let n : b.length + length (take k (bits 64 word)) ≡ b.length + k = omega (arith, length-low k word few) in
      let o : b.ones + count [] ≡ b.ones = omega (arith, no-count) in
      sym (appended-grown (filling b bytes) (take k (bits 64 word)) 0 [] (in_progress b ++ take k (bits 64 word)) p
      ∙ ap₂ (λ (x y : ℕ). filling (rebuilt b x (word_of (in_progress b ++ take k (bits 64 word))) y)
      (over_from bytes (8 * (b.length / 64)) (packed 0 []))) n o
      ∙ ap₂ (λ (x : ℕ) (y : List ℕ). filling (rebuilt b (b.length + k) x b.ones) y)
      (sym (word_value 64 (in_progress b ++ take k (bits 64 word)) low fits (omega (arith, row-long)) row-flags))
      (ap (over_from bytes (8 * (b.length / 64))) (no_bytes []) ∙ over_from-none bytes (8 * (b.length / 64))))

-- ---- the word made by `or`: a word with zeros at the new flags' places, and the new flags moved up

pub or-merged : (b : BitmapBuilder) (flags u low : ℕ) → none_from b.word (b.length % 64) ≡ true
    → bits 64 u ≡ window (copies (b.length % 64) false ++ bits 64 flags) 0 64 → bits 64 low ≡ zip_with ◌||◌ (bits 64 b.word) (bits 64 u)
    → bits 64 low ≡ window (take (b.length % 64) (bits 64 b.word) ++ bits 64 flags) 0 64
or-merged b flags u low e moved joined =
    or-concat 64 (b.length % 64) b.word flags u low (omega arith) (low-window (b.length % 64) b.word e) moved joined

pub push-within : (b : BitmapBuilder) (bytes : List ℕ) (flags u low k : ℕ) → Inside b flags k
    → bits 64 u ≡ window (copies (b.length % 64) false ++ bits 64 flags) 0 64 → bits 64 low ≡ zip_with ◌||◌ (bits 64 b.word) (bits 64 u)
    → low < 2 ^ 64
    → filling (rebuilt b (b.length + k) low b.ones) bytes ≡ appended (filling b bytes) (take k (bits 64 flags))
push-within b bytes flags u low k i moved joined fits =
    let room : b.length % 64 + k < 64 = i.room in
    push-short b bytes flags flags low k (omega arith) (low-window k flags i.few) (or-merged b flags u low i.low moved joined) fits room

-- new flags that begin a word
pub push-begun : (b : BitmapBuilder) (bytes : List ℕ) (longer rest k : ℕ) → b.length % 64 ≡ 0 → k < 64 → none_from rest k ≡ true
    → rest < 2 ^ 64 → longer ≡ b.length + k
    → filling (rebuilt b longer rest b.ones) bytes ≡ appended (filling b bytes) (take k (bits 64 rest))
push-begun b bytes longer rest k begun few none fits e =
    let whole : bits 64 rest ≡ window (bits 64 rest) 0 64 =
    sym (ap (window (bits 64 rest) 0) (sym (length-bits 64 rest)) ∙ window-all (bits 64 rest)) in
    let merged : bits 64 rest ≡ window (take (b.length % 64) (bits 64 b.word) ++ bits 64 rest) 0 64 =
    whole ∙ sym (ap (λ (n : ℕ). window (take n (bits 64 b.word) ++ bits 64 rest) 0 64) begun) in
    ap (λ (n : ℕ). filling (rebuilt b n rest b.ones) bytes) e
    ∙ push-short b bytes rest rest rest k (omega arith) (low-window k rest none) merged fits (omega arith)
