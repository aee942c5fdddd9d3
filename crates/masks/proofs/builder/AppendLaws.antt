-- Appending to a builder: nothing, or one list after another; the builder's flags and its count afterwards. For all appends.
use mathlib.Core.Path.{◌≡◌, refl, sym, ap, ap₂, ◌∙◌}
use mathlib.Core.Bool.{Bool, true, false}
use mathlib.Core.List.{List, [], ◌∷◌, ◌++◌, append_assoc, append-nil}
use Prim.Native.Nat.{ℕ, zero, suc, ◌+◌, ◌*◌, ◌/◌, ◌%◌, ◌^◌, ◌≤◌, ◌<◌}
use native.Mathlib.Omega.{arith}
use lib.ListN.{length, take, drop, length-append, length-drop, take-append-drop}
use lib.Seq.{length-take-le, take_at, drop_at}
use borrow.Author.Tests.{not-true}
use Rattle.words.specs.Counts.{any_set}
use Rattle.words.specs.Flags.{bits, copies, count, digit, window, word_of}
use Rattle.words.proofs.counts.AnyFlag.{any-zero, none-zero}
use Rattle.words.proofs.flags.Bits.{length-bits, word_of_bits}
use Rattle.words.proofs.counts.Counting.{count-append}
use Rattle.words.proofs.theorems.Plain.{window-part}
use Rattle.words.proofs.flags.Windows.{window-all, window-cut, bits-window}
use Rattle.masks.specs.Builder.{Filling, filling, rebuilt, in_progress, appended, none_from}
use Rattle.masks.specs.Frozen.{packed, over_from}
use Rattle.masks.specs.declared.builder.BitmapBuilder.{BitmapBuilder}
use Rattle.masks.proofs.bitmap_ops.FrozenLaws.{length-packed, packed-window, packed-append, over_from-none, over_from-more}

-- ---- lists at the seams of words

pub window-front : (n : ℕ) (a b : List Bool) → length a ≡ n → window (a ++ b) 0 n ≡ a
window-front n a b e = window-part (a ++ b) 0 n (omega (arith, length-append a b)) ∙ take_at a b n e

packed-front : (n : ℕ) (a b : List Bool) → length a ≡ 8 * n → packed n (a ++ b) ≡ packed n a
packed-front n a b e =
    let h : 8 * n ≤ 8 * n = omega arith in
    packed-window n (8 * n) (a ++ b) h ∙ ap (packed n) (window-front (8 * n) a b e)

-- the first flags of a list's word are the list
pub word_back : (r : List Bool) (k : ℕ) → length r ≡ k → k ≤ 64 → take k (bits 64 (word_of r)) ≡ r
word_back r k e h =
    ap (take k) (bits-window 64 r) ∙ window-cut r 0 64 0 k (omega arith) ∙ ap (window r 0) (sym e) ∙ window-all r

pub length-progress : (b : BitmapBuilder) → length (in_progress b) ≡ b.length % 64
unfolding in_progress
length-progress b = length-take-le (b.length % 64) (bits 64 b.word) (omega (arith, length-bits 64 b.word))

pub progress-of : (b : BitmapBuilder) (n : ℕ) (r : List Bool) (ones : ℕ) → length r ≡ n % 64
    → in_progress (rebuilt b n (word_of r) ones) ≡ r
unfolding in_progress
progress-of b n r ones e = word_back r (n % 64) e (omega arith)

-- ---- one form for the builder after an append

-- the flags in progress followed by the new ones are `front`, q whole words, and `rest`, less than a word
pub record Parts (f : Filling) (l : List Bool) (q : ℕ) (front rest : List Bool) : Type 0 where
  pub row : in_progress f.builder ++ l ≡ front ++ rest
  pub whole : length front ≡ 64 * q
  pub less : length rest < 64

-- the builder with n more flags, of which `front` is written
abbrev pub grown : Filling → ℕ → ℕ → List Bool → List Bool → Filling
grown f n q front rest =
    filling (rebuilt f.builder (f.builder.length + n) (word_of rest) (f.builder.ones + count front))
    (over_from f.bytes (8 * (f.builder.length / 64)) (packed (8 * q) front))

abbrev made : Filling → ℕ → ℕ → List Bool → Filling
made f n q all =
    filling (rebuilt f.builder (f.builder.length + n) (word_of (drop (64 * q) all)) (f.builder.ones + count (take (64 * q) all)))
    (over_from f.bytes (8 * (f.builder.length / 64)) (packed (8 * q) all))

made-grown : (f : Filling) (n q : ℕ) (front rest : List Bool) → length front ≡ 64 * q → made f n q (front ++ rest) ≡ grown f n q front rest
made-grown f n q front rest e =
    let e8 : length front ≡ 8 * (8 * q) = omega arith in
    ap₂ (λ (r t : List Bool). filling (rebuilt f.builder (f.builder.length + n) (word_of r) (f.builder.ones + count t))
    (over_from f.bytes (8 * (f.builder.length / 64)) (packed (8 * q) (front ++ rest))))
    (drop_at front rest (64 * q) e) (take_at front rest (64 * q) e)
    ∙ ap (λ (m : List ℕ). filling (rebuilt f.builder (f.builder.length + n) (word_of rest) (f.builder.ones + count front))
    (over_from f.bytes (8 * (f.builder.length / 64)) m))
    (packed-front (8 * q) front rest e8)

pub appended-grown : (f : Filling) (l : List Bool) (q : ℕ) (front rest : List Bool) → Parts f l q front rest
    → appended f l ≡ grown f (length l) q front rest
unfolding appended
appended-grown f l q front rest p =
    let row = p.row in
    let long : length (in_progress f.builder ++ l) ≡ length front + length rest = ap length row ∙ length-append front rest in
    let less : length rest < 64 = p.less in
    let full : length front ≡ 64 * q = p.whole in
    let w : length (in_progress f.builder ++ l) / 64 ≡ q = omega arith in
    ap₂ (made f (length l)) w row ∙ made-grown f (length l) q front rest full

-- the parts for any list that is appended
pub parts-of : (f : Filling) (l : List Bool)
    → Parts f l (length (in_progress f.builder ++ l) / 64)
    (take (64 * (length (in_progress f.builder ++ l) / 64)) (in_progress f.builder ++ l))
    (drop (64 * (length (in_progress f.builder ++ l) / 64)) (in_progress f.builder ++ l))
parts-of f l =
    let all = in_progress f.builder ++ l in
    record {
      row = sym (take-append-drop (64 * (length all / 64)) all);
      whole = length-take-le (64 * (length all / 64)) all (omega arith);
      less = omega (arith, length-drop (64 * (length all / 64)) all);
    }

-- the number of flags in the parts
pub parts-long : (f : Filling) (l : List Bool) (q : ℕ) (front rest : List Bool) → Parts f l q front rest
    → f.builder.length % 64 + length l ≡ 64 * q + length rest
parts-long f l q front rest p =
    let long : length (in_progress f.builder ++ l) ≡ length (front ++ rest) = ap length p.row in
    let full : length front ≡ 64 * q = p.whole in
    omega (arith, length-append (in_progress f.builder) l, length-progress f.builder, length-append front rest)

-- ---- one list after another

module _ (f : Filling) (a b : List Bool) (q : ℕ) (front rest : List Bool) (p : Parts f a q front rest) (r : ℕ) (front2 rest2 : List Bool)
    (row : rest ++ b ≡ front2 ++ rest2) (full2 : length front2 ≡ 64 * r) (less2 : length rest2 < 64) where
  next-parts : Parts (grown f (length a) q front rest) b r front2 rest2
  next-parts =
      let less : length rest < 64 = p.less in
      let e : length rest ≡ (f.builder.length + length a) % 64 = omega (arith, parts-long f a q front rest p) in
      record {
        row = ap (λ (t : List Bool). t ++ b) (progress-of f.builder (f.builder.length + length a) rest (f.builder.ones + count front)
            e) ∙ row;
        whole = full2;
        less = less2;
      }

  both-parts : Parts f (a ++ b) (q + r) (front ++ front2) rest2
  both-parts =
      let full : length front ≡ 64 * q = p.whole in
      record {
        row =
            sym (append_assoc (in_progress f.builder) a b) ∙ ap (λ (t : List Bool). t ++ b) p.row
            ∙ append_assoc front rest b ∙ ap (λ (t : List Bool). front ++ t) row ∙ sym (append_assoc front front2 rest2);
        whole = omega (arith, length-append front front2);
        less = less2;
      }

  grown-grown : grown (grown f (length a) q front rest) (length b) r front2 rest2
      ≡ grown f (length (a ++ b)) (q + r) (front ++ front2) rest2
  grown-grown =
      let full : length front ≡ 64 * q = p.whole in
      let less : length rest < 64 = p.less in
      let n : f.builder.length + length a + length b ≡ f.builder.length + length (a ++ b) = omega (arith, length-append a b) in
      let o : f.builder.ones + count front + count front2 ≡ f.builder.ones + count (front ++ front2) =
      omega (arith, count-append front front2) in
      let at : 8 * ((f.builder.length + length a) / 64) ≡ 8 * (f.builder.length / 64) + length (packed (8 * q) front) = omega
      (arith, parts-long f a q front rest p, length-packed (8 * q) front) in
      let k : 8 * q + 8 * r ≡ 8 * (q + r) = omega arith in
      let e8 : length front ≡ 8 * (8 * q) = omega arith in
      let two : packed (8 * q) front ++ packed (8 * r) front2 ≡ packed (8 * (q + r)) (front ++ front2) =
      sym (packed-append (8 * q) (8 * r) (front ++ front2)
      ∙ ap₂ (λ (s t : List ℕ). s ++ t) (packed-front (8 * q) front front2 e8) (ap (packed (8 * r)) (drop_at front front2 (8 * (8 * q)) e8)))
      ∙ ap (λ (x : ℕ). packed x (front ++ front2)) k in
      let m : over_from (over_from f.bytes (8 * (f.builder.length / 64)) (packed (8 * q) front)) (8 * ((f.builder.length + length a) / 64))
      (packed (8 * r) front2) ≡ over_from f.bytes (8 * (f.builder.length / 64)) (packed (8 * (q + r)) (front ++ front2)) =
      ap (λ (x : ℕ). over_from (over_from f.bytes (8 * (f.builder.length / 64)) (packed (8 * q) front)) x (packed (8 * r) front2)) at
      ∙ over_from-more f.bytes (8 * (f.builder.length / 64)) (packed (8 * q) front) (packed (8 * r) front2)
      ∙ ap (over_from f.bytes (8 * (f.builder.length / 64))) two in
      ap₂ (λ (x y : ℕ). filling (rebuilt f.builder x (word_of rest2) y)
      (over_from (over_from f.bytes (8 * (f.builder.length / 64)) (packed (8 * q) front)) (8 * ((f.builder.length + length a) / 64))
      (packed (8 * r) front2))) n o
      ∙ ap (filling (rebuilt f.builder (f.builder.length + length (a ++ b)) (word_of rest2) (f.builder.ones + count (front ++ front2)))) m

  append-parts : appended (appended f a) b ≡ appended f (a ++ b)
  append-parts =
      ap (λ (g : Filling). appended g b) (appended-grown f a q front rest p)
      ∙ appended-grown (grown f (length a) q front rest) b r front2 rest2 next-parts
      ∙ grown-grown ∙ sym (appended-grown f (a ++ b) (q + r) (front ++ front2) rest2 both-parts)

-- appending one list, then another, equals appending the two joined
pub append-append : (f : Filling) (a b : List Bool) → appended (appended f a) b ≡ appended f (a ++ b)
append-append f a b =
    let all = in_progress f.builder ++ a in
    let rest = drop (64 * (length all / 64)) all in
    let row = rest ++ b in
    append-parts f a b (length all / 64) (take (64 * (length all / 64)) all) rest (parts-of f a)
    (length row / 64) (take (64 * (length row / 64)) row) (drop (64 * (length row / 64)) row)
    (sym (take-append-drop (64 * (length row / 64)) row))
    (length-take-le (64 * (length row / 64)) row (omega arith))
    (omega (arith, length-drop (64 * (length row / 64)) row))

pub append-then : (f g h : Filling) (a b : List Bool) → g ≡ appended f a → h ≡ appended g b → h ≡ appended f (a ++ b)
append-then f g h a b p q = q ∙ ap (λ (x : Filling). appended x b) p ∙ append-append f a b

-- ---- nothing

low-list : (k : ℕ) (l : List Bool) → any_set (drop k l) ≡ false → word_of (take k l) ≡ word_of l
unfolding word_of
low-list zero l e = sym (none-zero l e)
low-list (suc k) [] e = refl
low-list (suc k) (x ∷ l) e = ap (λ (n : ℕ). n * 2 + digit x) (low-list k l e)

-- a word with no set flag at k or above is the word of its first k flags
pub low_word : (k w : ℕ) → w < 2 ^ 64 → none_from w k ≡ true → word_of (take k (bits 64 w)) ≡ w
low_word k w h e = low-list k (bits 64 w) (not-true (any_set (drop k (bits 64 w))) e) ∙ word_of_bits 64 w h

pub low-window : (k w : ℕ) → none_from w k ≡ true → bits 64 w ≡ window (take k (bits 64 w)) 0 64
low-window k w e =
    sym (sym (bits-window 64 (take k (bits 64 w))) ∙ ap (bits 64) (low-list k (bits 64 w) (not-true (any_set (drop k (bits 64 w))) e))
    ∙ bits-window 64 (bits 64 w) ∙ ap (window (bits 64 w) 0) (sym (length-bits 64 w)) ∙ window-all (bits 64 w))

pub low_count : (k w : ℕ) → none_from w k ≡ true → count (take k (bits 64 w)) ≡ count (bits 64 w)
low_count k w e =
    let z : count (drop k (bits 64 w)) ≡ 0 = any-zero (drop k (bits 64 w)) (sym (not-true (any_set (drop k (bits 64 w))) e)) in
    let s : count (take k (bits 64 w)) + count (drop k (bits 64 w)) ≡ count (bits 64 w) =
    sym (count-append (take k (bits 64 w)) (drop k (bits 64 w)))
    ∙ ap count (take-append-drop k (bits 64 w)) in
    omega arith

pub no-count : count [] ≡ 0
unfolding count
no-count = refl

pub no_bytes : (l : List Bool) → packed 0 l ≡ []
unfolding packed
no_bytes l = refl

progress-word : (b : BitmapBuilder) → b.word < 2 ^ 64 → none_from b.word (b.length % 64) ≡ true → word_of (in_progress b) ≡ b.word
unfolding in_progress
progress-word b h e = low_word (b.length % 64) b.word h e

-- appending nothing to a possible builder changes nothing
pub append-none : (f : Filling) → f.builder.word < 2 ^ 64 → none_from f.builder.word (f.builder.length % 64) ≡ true → appended f [] ≡ f
append-none f h e =
    let p : Parts f [] 0 [] (in_progress f.builder) =
    record { row = append-nil (in_progress f.builder); whole = refl; less = omega (arith, length-progress f.builder) } in
    let n : f.builder.length + 0 ≡ f.builder.length = omega arith in
    let o : f.builder.ones + count [] ≡ f.builder.ones = omega (arith, no-count) in
    appended-grown f [] 0 [] (in_progress f.builder) p
    ∙ ap₂ (λ (x y : ℕ). filling (rebuilt f.builder x (word_of (in_progress f.builder)) y)
    (over_from f.bytes (8 * (f.builder.length / 64)) (packed 0 []))) n o
    ∙ ap₂ (λ (x : ℕ) (y : List ℕ). filling (rebuilt f.builder f.builder.length x f.builder.ones) y)
    (progress-word f.builder h e)
    (ap (over_from f.bytes (8 * (f.builder.length / 64))) (no_bytes []) ∙ over_from-none f.bytes (8 * (f.builder.length / 64)))

-- an append reads and changes only length, word and ones: the record's other fields stay
pub stored : (b own c : BitmapBuilder) (bytes out : List ℕ) (l : List Bool) → own ≡ b → filling c out ≡ appended (filling own bytes) l
    → filling (rebuilt b c.length c.word c.ones) out ≡ appended (filling b bytes) l
unfolding appended
stored b own c bytes out l same e =
    ap (λ (f : Filling). filling (rebuilt b f.builder.length f.builder.word f.builder.ones) f.bytes)
    (e ∙ ap (λ (o : BitmapBuilder). appended (filling o bytes) l) same)

pub take-copies : (k n : ℕ) (x : Bool) → k ≤ n → take k (copies n x) ≡ copies k x
unfolding copies
take-copies zero n x h = refl
take-copies (suc k) zero x h = absurd (omega arith)
take-copies (suc k) (suc n) x h = ap (λ (t : List Bool). x ∷ t) (take-copies k n x (omega arith))

-- the first k flags of a word of copies of x are k copies of x
pub constant-front : (k w : ℕ) (x : Bool) → k ≤ 64 → bits 64 w ≡ copies 64 x → take k (bits 64 w) ≡ copies k x
constant-front k w x h e = ap (take k) e ∙ take-copies k 64 x h

pub one-copy : (x : Bool) → copies 1 x ≡ x ∷ []
unfolding copies
one-copy x = refl
