-- Long extensions: whole words written to the buffer, and a list appended in three parts. For `extend_constant` and `extend_from_slice`.
use Rattle.std.proofs.lemmas.Bool.{and_parts}
use Rattle.std.proofs.lemmas.List.{nil_from_length}
use mathlib.Core.Path.{◌≡◌, refl, sym, ap, ap₂, ◌∙◌}
use mathlib.Core.Bool.{Bool, true, false, ◌&&◌}
use Rattle.std.specs.Int.{from_bool}
use mathlib.Core.List.{List, [], ◌++◌, append-nil}
use Prim.Native.Nat.{ℕ, ◌+◌, ◌-◌, ◌*◌, ◌/◌, ◌%◌, ◌≤◌, ◌<◌, min}
use native.Mathlib.Nat.{zero-lt-suc}
use native.Mathlib.Omega.{arith}
use lib.Dec.{leb, ltb}
use lib.ListN.{length, take, length-append}
use borrow.Author.Tests.{leb-true, ltb-true}
use Rattle.words.specs.Flags.{bits, copies, count, digit, flags_of, over, over_at, window, word_of}
use Rattle.words.specs.Loops.{whole_words}
use Rattle.words.proofs.flags.Bits.{length-bits}
use Rattle.words.proofs.merge.Merging.{front-flags}
use Rattle.words.proofs.flags.Windows.{length-copies, window-add, window-all, window-cut}
use Rattle.words.proofs.loops.Writing.{copies-add}
use Rattle.masks.specs.Builder.{Filling, filling, rebuilt, in_progress, appended}
use Rattle.masks.specs.Frozen.{packed, over_from}
use Rattle.masks.specs.declared.builder.BitmapBuilder.{BitmapBuilder}
use Rattle.masks.proofs.builder.AppendLaws.{Parts, appended-grown, append-then, length-progress}
use Rattle.masks.proofs.bitmap_ops.FrozenLaws.{Small, written-bytes}
use Rattle.masks.proofs.utils.PartLaws.{length-low}

-- ---- whole words

no_word : word_of [] ≡ 0
unfolding word_of
no_word = refl

-- the flags that a helper wrote, starting at word `at`, as bytes
whole-written : (bytes out : List ℕ) (at q : ℕ) (l : List Bool) → length l ≡ 64 * q → Small bytes → Small out
    → flags_of out ≡ over_at (flags_of bytes) (8 * at) (whole_words l)
    → out ≡ over_from bytes at (packed (8 * q) l)
unfolding whole_words
whole-written bytes out at q l e small small' put =
    let n : 64 * ((length l + 63) / 64) ≡ 8 * (8 * q) = omega arith in
    written-bytes bytes out at (8 * q) l small small' (put ∙ ap (λ (x : ℕ). over_at (flags_of bytes) (8 * at) (window l 0 x)) n)

-- whole words appended to a builder with no word in progress
pub append-whole : (b : BitmapBuilder) (bytes out : List ℕ) (q c : ℕ) (l : List Bool) → b.length % 64 ≡ 0 → length l ≡ 64 * q → c ≡ count l
    → Small bytes → Small out
    → flags_of out ≡ over_at (flags_of bytes) (8 * (8 * (b.length / 64))) (whole_words l)
    → filling (rebuilt b (b.length + 64 * q) 0 (b.ones + c)) out ≡ appended (filling b bytes) l
append-whole b bytes out q c l h e ones small small' put =
    let none : in_progress b ≡ [] = nil_from_length (in_progress b) (length-progress b ∙ h) in
    let p : Parts (filling b bytes) l q l [] =
    record { row = ap (λ (t : List Bool). t ++ l) none ∙ sym (append-nil l); whole = e; less = zero-lt-suc 63 } in
    sym (appended-grown (filling b bytes) l q l [] p
    ∙ ap₂ (λ (x y : ℕ). filling (rebuilt b (b.length + x) y (b.ones + count l)) (over_from bytes (8 * (b.length / 64)) (packed (8 * q) l)))
    e no_word
    ∙ ap₂ (λ (x : ℕ) (y : List ℕ). filling (rebuilt b (b.length + 64 * q) 0 (b.ones + x)) y) (sym ones)
    (sym (whole-written bytes out (8 * (b.length / 64)) q l e small small' put)))

-- if there is room for q words of copies of x, all q are written
pub words-filled : (F : List Bool) (out : List ℕ) (q m : ℕ) (x : Bool) → q ≤ m → flags_of out ≡ over F (copies (64 * min q m) x)
    → flags_of out ≡ over F (whole_words (copies (64 * q) x))
unfolding whole_words
words-filled F out q m x h put =
    let e : min q m ≡ q = omega arith in
    let n : 64 * ((length (copies (64 * q) x) + 63) / 64) ≡ length (copies (64 * q) x) = omega (arith, length-copies (64 * q) x) in
    put ∙ ap (λ (k : ℕ). over F (copies (64 * k) x)) e
    ∙ ap (over F) (sym (ap (window (copies (64 * q) x) 0) n ∙ window-all (copies (64 * q) x)))

-- ---- up to the end of the word in progress

pub push-closed : (b : BitmapBuilder) (bytes out : List ℕ) (word low c : ℕ)
    → bits 64 low ≡ window (take (b.length % 64) (bits 64 b.word) ++ bits 64 word) 0 64 → c ≡ count (bits 64 low) → Small bytes → Small out
    → flags_of out ≡ over_at (flags_of bytes) (8 * (8 * (b.length / 64))) (bits 64 low)
    → filling (rebuilt b (b.length + (64 - b.length % 64)) 0 (b.ones + c)) out
    ≡ appended (filling b bytes) (take (64 - b.length % 64) (bits 64 word))
unfolding in_progress
push-closed b bytes out word low c merged ones small small' put =
    let l = take (64 - b.length % 64) (bits 64 word) in
    let row = in_progress b ++ l in
    let short : length l ≡ 64 - b.length % 64 = length-low (64 - b.length % 64) word (omega arith) in
    let whole : length row ≡ 64 * 1 = omega (arith, length-append (in_progress b) l, length-progress b) in
    let front : bits 64 low ≡ row =
    merged
    ∙ sym (front-flags 64 (b.length % 64) (in_progress b) (bits 64 word) (length-progress b) (omega arith) (length-bits 64 word)) in
    let p : Parts (filling b bytes) l 1 row [] = record { row = sym (append-nil row); whole = whole; less = zero-lt-suc 63 } in
    let n : b.length + length l ≡ b.length + (64 - b.length % 64) = omega arith in
    let o : b.ones + count row ≡ b.ones + c = ap (λ (x : ℕ). b.ones + x) (sym (ones ∙ ap count front)) in
    let all : window row 0 (8 * 8) ≡ row = ap (window row 0) (sym whole) ∙ window-all row in
    sym (appended-grown (filling b bytes) l 1 row [] p
    ∙ ap₂ (λ (x y : ℕ). filling (rebuilt b x (word_of []) y) (over_from bytes (8 * (b.length / 64)) (packed 8 row))) n o
    ∙ ap₂ (λ (x : ℕ) (y : List ℕ). filling (rebuilt b (b.length + (64 - b.length % 64)) x (b.ones + c)) y) no_word
    (sym (written-bytes bytes out (8 * (b.length / 64)) 8 row small small'
    (put ∙ ap (over_at (flags_of bytes) (8 * (8 * (b.length / 64)))) (front ∙ sym all)))))

-- ---- three parts

pub append-three : (f g h k : Filling) (a m c l : List Bool) → g ≡ appended f a → h ≡ appended g m → k ≡ appended h c → (a ++ m) ++ c ≡ l
    → k ≡ appended f l
append-three f g h k a m c l p q r e = append-then f h k (a ++ m) c (append-then f g h a m p q) r ∙ ap (appended f) e

pub copies-three : (a m c n : ℕ) (x : Bool) → n ≡ a + m + c → (copies a x ++ copies m x) ++ copies c x ≡ copies n x
copies-three a m c n x e =
    sym (ap (λ (k : ℕ). copies k x) e ∙ copies-add (a + m) c x ∙ ap (λ (t : List Bool). t ++ copies c x) (copies-add a m x))

pub window-three : (l : List Bool) (k a m c n x y : ℕ) → n ≡ a + m + c → x ≡ k + a → y ≡ k + (a + m)
    → (window l k a ++ window l x m) ++ window l y c ≡ window l k n
window-three l k a m c n x y e ex ey =
    ap₂ (λ (i j : ℕ). (window l k a ++ window l i m) ++ window l j c) ex ey
    ∙ sym (ap (window l k) e ∙ window-add l k (a + m) c ∙ ap (λ (t : List Bool). t ++ window l (k + (a + m)) c) (window-add l k a m))

-- the test of the short path: n is at most 57, and the word in progress has room for n flags
pub few-inside : (b : BitmapBuilder) (n : ℕ) (t : Bool) → t ≡ (leb n 57 && ltb (b.length % 64 + n) 64) → t ≡ true
    → (n ≤ 57) × (b.length % 64 + n < 64)
few-inside b n t e h = (
  leb-true n 57 (and_parts _ _ (sym e ∙ h)).0,
  ltb-true (b.length % 64 + n) 64 (and_parts _ _ (sym e ∙ h)).1,
)

-- the first k flags of a word that was read starting at a flag
pub stretch-front : (l : List Bool) (bit k w : ℕ) → k ≤ 64 → bits 64 w ≡ window l bit 64 → take k (bits 64 w) ≡ window l bit k
stretch-front l bit k w h e =
    let z : bit + 0 ≡ bit = omega arith in
    ap (take k) e ∙ window-cut l bit 64 0 k (omega arith) ∙ ap (λ (x : ℕ). window l x k) z

-- n times a flag as std's number is n times the flag as `digit`, and at most n
pub ones-of : (n r : ℕ) (x : Bool) → r ≡ from_bool x → (n * r ≡ n * digit x) × (n * r ≤ n)
ones-of n r true e = (ap (λ (x : ℕ). n * x) e, omega (arith, ap (λ (x : ℕ). n * x) e))
ones-of n r false e = (ap (λ (x : ℕ). n * x) e, omega (arith, ap (λ (x : ℕ). n * x) e))
