-- Builders with room for what is appended: what follows from the checks, and the room that is left after an append.
use Rattle.std.proofs.lemmas.Bool.{and_parts}
use Rattle.std.proofs.Math.Bool.{and-false, and-true}
use mathlib.Core.Path.{◌≡◌, refl, sym, ap, ap₂, ◌∙◌, subst}
use mathlib.Core.Bool.{Bool, true, false, cond, not, ◌&&◌}
use mathlib.Core.List.{List, [], ◌∷◌, ◌++◌, append_assoc}
use Prim.Native.Nat.{ℕ, ◌+◌, ◌*◌, ◌/◌, ◌%◌, ◌≤◌, ◌<◌}
use native.Mathlib.Omega.{arith}
use lib.Dec.{leb}
use lib.ListN.{length, take, drop, get_or, length-append, take-append-drop}
use borrow.Author.Tests.{leb-true, le-leb, lt-leb}
use Rattle.words.specs.Flags.{bits, count, flags_of, over_at, window, word_of}
use Rattle.words.proofs.counts.AnyFlag.{zero-any}
use Rattle.words.proofs.flags.Bytes.{length-flags}
use Rattle.words.proofs.counts.Counting.{count-append, count-le, count-padded}
use Rattle.words.proofs.word.Loads.{had-room}
use Rattle.words.proofs.theorems.Plain.{over_at-before, over_at-in}
use Rattle.words.proofs.flags.Windows.{length-window, window-add, window-ext, as-window, at_in, bits-window}
use Rattle.masks.specs.Builder.{Filling, in_progress, appended, builder_flags, none_from, possible, builder_checks}
use Rattle.masks.specs.Appends.{inner_checks}
use Rattle.masks.specs.Checks.{check, rank, place_in, earlier, first_failed, limit, within_limit, span_checks, output_checks}
use Rattle.masks.specs.Frozen.{packed, over_from}
use Rattle.masks.specs.Mask.{mask_checks, count_valid}
use Rattle.masks.specs.Workers.{Room}
use Rattle.masks.specs.declared.bitmap.Bitmap.{Bitmap}
use Rattle.masks.specs.declared.builder.BitmapBuilder.{BitmapBuilder}
use Rattle.masks.proofs.builder.AppendLaws.{Parts, grown, appended-grown, parts-of, parts-long, progress-of, word_back, length-progress}
use Rattle.masks.proofs.checks.CheckLaws.{one-check, earlier-none, none-earlier, first-least, first-allowed, rest-allowed, both_left}
use Rattle.masks.proofs.checks.CheckLaws.{both_right}
use Rattle.masks.proofs.checks.CheckLaws.{SpanAllowed, span-allowed}
use Rattle.masks.proofs.checks.OrderLaws.{leads, led}
use Rattle.masks.proofs.bitmap_ops.FrozenLaws.{flags-packed, length-over_from, flags-over_from}

-- ---- the number of a builder's checks, by cases on the code's tests

-- check 1 comes before checks 4 and 9 in the order
limit-leads : (p : Bool) (n size : ℕ) → leads 1 (check 4 p ∷ output_checks n size) ≡ true
unfolding output_checks rank place_in
limit-leads p n size = refl

pub over-limit : (b : BitmapBuilder) (n size : ℕ) → leb (b.length + n) limit ≡ false
    → 1 ≡ first_failed (builder_checks b (b.length + n) size)
unfolding first_failed builder_checks
over-limit b n size e =
    let after = check 4 (possible b size) ∷ output_checks (b.length + n) size in
    either (leb b.length limit) (first_failed after) (sym (led 0 after (limit-leads (possible b size) (b.length + n) size)))
    ∙ ap (λ (t : Bool). earlier (cond (leb b.length limit) 0 1) (earlier (cond t 0 1) (first_failed after))) (sym e)
  where
    either : (t : Bool) (x : ℕ) → 1 ≡ earlier 1 x → 1 ≡ earlier (cond t 0 1) (earlier 1 x)
    either true x h = h ∙ sym (none-earlier (earlier 1 x))
    either false x h = sym (first-least 1 1 (λ q. omega arith) (λ q. omega arith) (omega arith)) ∙ ap (earlier 1) h

pub in-limit : (b : BitmapBuilder) (n size r : ℕ) → leb (b.length + n) limit ≡ true
    → r ≡ first_failed (check 4 (possible b size) ∷ output_checks (b.length + n) size)
    → r ≡ first_failed (builder_checks b (b.length + n) size)
unfolding first_failed builder_checks earlier
in-limit b n size r e p =
    let short = leb-true (b.length + n) limit e in
    p ∙ ap₂ (λ (s t : Bool). earlier (cond s 0 1)
    (earlier (cond t 0 1) (first_failed (check 4 (possible b size) ∷ output_checks (b.length + n) size))))
    (sym (le-leb b.length limit (omega arith))) (sym e)

pub impossible : (t : Bool) (n size : ℕ) → t ≡ false → 4 ≡ first_failed (check 4 t ∷ output_checks n size)
unfolding first_failed output_checks earlier rank place_in
impossible t n size e =
    last (leb (8 * ((n + 63) / 64)) size) ∙ ap (λ (s : Bool). earlier (cond s 0 4) (first_failed (output_checks n size))) (sym e)
  where
    last : (t : Bool) → 4 ≡ earlier 4 (earlier (cond t 0 9) 0)
    last true = refl
    last false = refl

-- the number if the buffer does not hold n flags: 9 or 4
pub small-room : (p : Bool) (n size r : ℕ) → r ≡ cond p 9 4 → size / 8 < (n + 63) / 64 → r ≡ first_failed (check 4 p ∷ output_checks n size)
unfolding first_failed output_checks earlier
small-room true n size r e h =
    one-check r 9 false (leb (8 * ((n + 63) / 64)) size) e (sym (lt-leb (8 * ((n + 63) / 64)) size (omega arith)))
small-room false n size r e h = e ∙ impossible false n size refl

-- if the buffer holds n flags, and so the finished words, the number is 4 or 0 by the rest of check 4
module _ (b : BitmapBuilder) (n size : ℕ) (holds : (n + 63) / 64 ≤ size / 8) (longer : b.length ≤ n) where
  pub ones_over : 64 * (b.length / 64) < b.ones → 4 ≡ first_failed (check 4 (possible b size) ∷ output_checks n size)
  unfolding possible
  ones_over h =
      impossible (possible b size) n size (ap (λ (t : Bool). none_from b.word (b.length % 64) && (t && leb (8 * (b.length / 64)) size))
      (lt-leb b.ones (64 * (b.length / 64)) h) ∙ and-false (none_from b.word (b.length % 64)))

  pub word-decides : (t : Bool) (r : ℕ) → b.ones ≤ 64 * (b.length / 64) → r ≡ cond t 0 4 → t ≡ none_from b.word (b.length % 64)
      → r ≡ first_failed (check 4 (possible b size) ∷ output_checks n size)
  unfolding first_failed possible output_checks earlier
  word-decides t r few e h =
      let enough : 8 * (b.length / 64) ≤ size = omega arith in
      let fits : 8 * ((n + 63) / 64) ≤ size = omega arith in
      e ∙ ap (λ (x : Bool). cond x 0 4) (h ∙ sym (and-true (none_from b.word (b.length % 64))))
      ∙ sym (earlier-none (cond (none_from b.word (b.length % 64) && (true && true)) 0 4))
      ∙ ap₂ (λ (x y : Bool). earlier (cond (none_from b.word (b.length % 64) && (x && y)) 0 4) 0)
      (sym (le-leb b.ones (64 * (b.length / 64)) few)) (sym (le-leb (8 * (b.length / 64)) size enough))
      ∙ ap (λ (x : Bool). earlier
      (cond (none_from b.word (b.length % 64) && (leb b.ones (64 * (b.length / 64)) && leb (8 * (b.length / 64)) size)) 0 4)
      (earlier (cond x 0 9) 0)) (sym (le-leb (8 * ((n + 63) / 64)) size fits))

-- ---- what follows from the checks

pub room_of : (b : BitmapBuilder) (n size : ℕ) → first_failed (builder_checks b (b.length + n) size) ≡ 0 → Room b n size
unfolding builder_checks possible output_checks
room_of b n size e =
    let two =
    rest-allowed (within_limit b.length)
    (within_limit (b.length + n) ∷ check 4 (possible b size) ∷ output_checks (b.length + n) size) e in
    let three = rest-allowed (within_limit (b.length + n)) (check 4 (possible b size) ∷ output_checks (b.length + n) size) two in
    let four = rest-allowed (check 4 (possible b size)) (output_checks (b.length + n) size) three in
    let poss = first-allowed 3 (possible b size) (output_checks (b.length + n) size) three in
    let rest = (and_parts _ _ poss).1 in
    record {
      short =
          leb-true (b.length + n) limit
          (first-allowed 0 (leb (b.length + n) limit) (check 4 (possible b size) ∷ output_checks (b.length + n) size) two);
      low = (and_parts _ _ poss).0;
      few = leb-true b.ones (64 * (b.length / 64)) (and_parts _ _ rest).0;
      holds = leb-true (8 * ((b.length + n + 63) / 64)) size (first-allowed 8 (leb (8 * ((b.length + n + 63) / 64)) size) [] four);
    }

-- the buffer has room for the word after the finished ones if the new flags reach into it
pub word-stored : (b : BitmapBuilder) (k size : ℕ) (out new old : List Bool) → Room b k size → b.length / 64 < (b.length + k + 63) / 64
    → out ≡ cond (leb (8 * (b.length / 64) + 8) size) new old → out ≡ new
word-stored b k size out new old r h e =
    let holds : 8 * ((b.length + k + 63) / 64) ≤ size = r.holds in
    had-room (8 * (b.length / 64)) size out new old e (omega arith)

-- what follows if the checks of appending a span pass
pub grow-allowed : (start n bytes size r : ℕ) (b : BitmapBuilder)
    → r ≡ first_failed (span_checks start n bytes ++ builder_checks b (b.length + n) size) → r ≡ 0
    → SpanAllowed start n bytes × Room b n size
grow-allowed start n bytes size r b e z = (
  span-allowed start n bytes (both_left (span_checks start n bytes) (builder_checks b (b.length + n) size) (sym e ∙ z)),
  room_of b n size (both_right (span_checks start n bytes) (builder_checks b (b.length + n) size) (sym e ∙ z)),
)

pub word-allowed : (w k : ℕ) → first_failed (within_limit k ∷ check 6 (leb k 64 && none_from w k) ∷ []) ≡ 0 → k ≤ 64
word-allowed w k e =
    leb-true k 64
    (and_parts _ _
    (first-allowed 5 (leb k 64 && none_from w k) [] (rest-allowed (within_limit k) (check 6 (leb k 64 && none_from w k) ∷ []) e))).0

pub room-less : (b : BitmapBuilder) (m n size : ℕ) → m ≤ n → Room b n size → Room b m size
room-less b m n size h r =
    let short : b.length + n ≤ limit = r.short in
    let holds : 8 * ((b.length + n + 63) / 64) ≤ size = r.holds in
    record { short = omega arith; low = r.low; few = r.few; holds = omega arith }

-- ---- after an append

-- the word of k flags has no set flag at k or above
pub none-after : (r : List Bool) (k : ℕ) → length r ≡ k → k ≤ 64 → none_from (word_of r) k ≡ true
none-after r k e h =
    let whole : count (bits 64 (word_of r)) ≡ count r = ap count (bits-window 64 r) ∙ count-padded r 64 (omega arith) in
    let front : count (take k (bits 64 (word_of r))) ≡ count r = ap count (word_back r k e h) in
    let sum : count (take k (bits 64 (word_of r))) + count (drop k (bits 64 (word_of r))) ≡ count (bits 64 (word_of r)) =
    sym (count-append (take k (bits 64 (word_of r))) (drop k (bits 64 (word_of r))))
    ∙ ap count (take-append-drop k (bits 64 (word_of r))) in
    ap not (sym (zero-any (drop k (bits 64 (word_of r))) (omega arith)))

grown-room : (f : Filling) (l : List Bool) (q : ℕ) (front rest : List Bool) (m n : ℕ) → Parts f l q front rest → length l + n ≤ m
    → Room f.builder m (length f.bytes)
    → Room (grown f (length l) q front rest).builder n (length (grown f (length l) q front rest).bytes)
grown-room f l q front rest m n p h r =
    let short : f.builder.length + m ≤ limit = r.short in
    let holds : 8 * ((f.builder.length + m + 63) / 64) ≤ length f.bytes = r.holds in
    let few : f.builder.ones ≤ 64 * (f.builder.length / 64) = r.few in
    let full : length front ≡ 64 * q = p.whole in
    let less : length rest < 64 = p.less in
    let long : f.builder.length % 64 + length l ≡ 64 * q + length rest = parts-long f l q front rest p in
    record {
      short = omega arith;
      low = none-after rest ((f.builder.length + length l) % 64) (omega arith) (omega arith);
      few = omega (arith, count-le front);
      holds = omega (arith, length-over_from f.bytes (8 * (f.builder.length / 64)) (packed (8 * q) front));
    }

-- after l is appended to a builder with room for m flags, there is room for n more if n and the length of l are at most m together
pub room_after : (f g : Filling) (l : List Bool) (m n : ℕ) → g ≡ appended f l → length l + n ≤ m → Room f.builder m (length f.bytes)
    → Room g.builder n (length g.bytes)
room_after f g l m n e h r =
    let p = parts-of f l in
    subst (λ (x : Filling). Room x.builder n (length x.bytes)) (sym (e ∙ appended-grown f l _ _ _ p)) (grown-room f l _ _ _ m n p h r)

pub room-then : (f g : Filling) (l : List Bool) (k m n : ℕ) → g ≡ appended f l → length l ≡ k → Room f.builder m (length f.bytes)
    → k + n ≤ m
    → Room g.builder n (length g.bytes)
room-then f g l k m n e h r q = room_after f g l m n e (omega arith) r

pub length-then : (f g : Filling) (l : List Bool) (k : ℕ) → g ≡ appended f l → length l ≡ k → g.builder.length ≡ f.builder.length + k
unfolding appended
length-then f g l k e h = ap (λ (x : Filling). x.builder.length) e ∙ ap (λ (x : ℕ). f.builder.length + x) h

pub size_after : (f g : Filling) (l : List Bool) → g ≡ appended f l → length g.bytes ≡ length f.bytes
unfolding appended
size_after f g l e = ap (λ (x : Filling). length x.bytes) e
    ∙ length-over_from f.bytes (8 * (f.builder.length / 64))
    (packed (8 * (length (in_progress f.builder ++ l) / 64)) (in_progress f.builder ++ l))

-- ---- the flags of the builder, and the count of its finished words

-- the flags of the finished words
abbrev pub finished : Filling → List Bool
finished f = window (flags_of f.bytes) 0 (64 * (f.builder.length / 64))

grown-finished : (f : Filling) (l : List Bool) (q : ℕ) (front rest : List Bool) → Parts f l q front rest
    → 8 * ((f.builder.length + length l) / 64) ≤ length f.bytes
    → finished (grown f (length l) q front rest) ≡ finished f ++ front
grown-finished f l q front rest p h =
    let full : length front ≡ 64 * q = p.whole in
    let less : length rest < 64 = p.less in
    let long : f.builder.length % 64 + length l ≡ 64 * q + length rest = parts-long f l q front rest p in
    let new : List Bool = flags_of (over_from f.bytes (8 * (f.builder.length / 64)) (packed (8 * q) front)) in
    let e : 64 * ((f.builder.length + length l) / 64) ≡ 64 * (f.builder.length / 64) + 64 * q = omega arith in
    let at : 8 * (8 * (f.builder.length / 64)) ≡ 64 * (f.builder.length / 64) = omega arith in
    let n8 : 8 * (8 * q) ≡ 64 * q = omega arith in
    let now : new ≡ over_at (flags_of f.bytes) (64 * (f.builder.length / 64)) (window front 0 (64 * q)) =
    flags-over_from f.bytes (8 * (f.builder.length / 64)) (packed (8 * q) front)
    ∙ ap₂ (λ (x : ℕ) (y : List Bool). over_at (flags_of f.bytes) x y) at (flags-packed (8 * q) front ∙ ap (window front 0) n8) in
    ap (window new 0) e ∙ window-add new 0 (64 * (f.builder.length / 64)) (64 * q)
    ∙ ap (λ (t : List Bool). window t 0 (64 * (f.builder.length / 64)) ++ window t (0 + 64 * (f.builder.length / 64)) (64 * q)) now
    ∙ ap₂ (λ (x y : List Bool). x ++ y)
    (window-ext (over_at (flags_of f.bytes) (64 * (f.builder.length / 64)) (window front 0 (64 * q))) (flags_of f.bytes) 0 0
    (64 * (f.builder.length / 64)) (λ j b.
    over_at-before (flags_of f.bytes) (64 * (f.builder.length / 64)) (window front 0 (64 * q)) (0 + j) (omega arith)))
    (sym (as-window front (over_at (flags_of f.bytes) (64 * (f.builder.length / 64)) (window front 0 (64 * q)))
    (0 + 64 * (f.builder.length / 64)) (64 * q) full (λ j b.
    let z : 0 + j ≡ j = omega arith in
    let y : 64 * (f.builder.length / 64) + j ≡ 0 + 64 * (f.builder.length / 64) + j = omega arith in
    sym (ap (λ (x : ℕ). get_or front x false) z) ∙ sym (at_in front 0 (64 * q) j b)
    ∙ sym (over_at-in (flags_of f.bytes) (64 * (f.builder.length / 64)) (window front 0 (64 * q)) j
    (omega (arith, length-window front 0 (64 * q)))
    (omega (arith, length-flags f.bytes)))
    ∙ ap (λ (x : ℕ). get_or (over_at (flags_of f.bytes) (64 * (f.builder.length / 64)) (window front 0 (64 * q))) x false) y)))

pub finished-after : (f : Filling) (l : List Bool) (q : ℕ) (front rest : List Bool) → Parts f l q front rest
    → 8 * ((f.builder.length + length l) / 64) ≤ length f.bytes
    → finished (appended f l) ≡ finished f ++ front
finished-after f l q front rest p h = ap finished (appended-grown f l q front rest p) ∙ grown-finished f l q front rest p h

grown-flags : (f : Filling) (l : List Bool) (q : ℕ) (front rest : List Bool) → Parts f l q front rest
    → 8 * ((f.builder.length + length l) / 64) ≤ length f.bytes
    → builder_flags (grown f (length l) q front rest) ≡ builder_flags f ++ l
unfolding builder_flags
grown-flags f l q front rest p h =
    let less : length rest < 64 = p.less in
    let e : length rest ≡ (f.builder.length + length l) % 64 = omega (arith, parts-long f l q front rest p) in
    ap₂ (λ (x y : List Bool). x ++ y) (grown-finished f l q front rest p h)
    (progress-of f.builder (f.builder.length + length l) rest (f.builder.ones + count front) e)
    ∙ append_assoc (finished f) front rest ∙ ap (λ (t : List Bool). finished f ++ t) (sym p.row)
    ∙ sym (append_assoc (finished f) (in_progress f.builder) l)

-- the flags after an append are the builder's flags, then the new ones
pub flags-after : (f : Filling) (l : List Bool) → Room f.builder (length l) (length f.bytes)
    → builder_flags (appended f l) ≡ builder_flags f ++ l
flags-after f l r =
    let holds : 8 * ((f.builder.length + length l + 63) / 64) ≤ length f.bytes = r.holds in
    let p = parts-of f l in
    ap builder_flags (appended-grown f l _ _ _ p) ∙ grown-flags f l _ _ _ p (omega arith)

-- if `ones` counts the ones of the finished words before an append, it does so after it
pub ones-after : (f : Filling) (l : List Bool) → Room f.builder (length l) (length f.bytes) → f.builder.ones ≡ count (finished f)
    → (appended f l).builder.ones ≡ count (finished (appended f l))
ones-after f l r e =
    let holds : 8 * ((f.builder.length + length l + 63) / 64) ≤ length f.bytes = r.holds in
    let p = parts-of f l in
    ap (λ (x : Filling). x.builder.ones) (appended-grown f l _ _ _ p) ∙ ap₂ (λ (x y : ℕ). x + y) e refl
    ∙ sym (ap count (finished-after f l _ _ _ p (omega arith)) ∙ count-append (finished f) _)

-- a builder has `length` flags
pub length-flags-of : (f : Filling) → length (builder_flags f) ≡ f.builder.length
unfolding builder_flags
length-flags-of f =
    omega (
      arith,
      length-append (finished f) (in_progress f.builder),
      length-window (flags_of f.bytes) 0 (64 * (f.builder.length / 64)),
      length-progress f.builder,
    )

-- ---- what follows from the checks of a mask and of a piece of it

pub record InnerAllowed (m : Bitmap) (bytes : List ℕ) (start n : ℕ) : Type 0 where
  pub starts : m.start ≤ limit
  pub short : m.length ≤ limit
  pub inside : start + n ≤ m.length
  pub lent : m.start + m.length ≤ 8 * length bytes

pub inner-allowed : (m : Bitmap) (bytes : List ℕ) (start n : ℕ) → first_failed (mask_checks m bytes) ≡ 0
    → first_failed (inner_checks start n m.length) ≡ 0
    → InnerAllowed m bytes start n
unfolding mask_checks inner_checks
inner-allowed m bytes start n e p =
    let span =
    span-allowed m.start m.length (length bytes)
    (both_left (span_checks m.start m.length (length bytes)) (check 3 (count_valid m bytes) ∷ []) e) in
    let two = rest-allowed (within_limit start) (within_limit n ∷ check 6 (leb (start + n) m.length) ∷ []) p in
    let three = rest-allowed (within_limit n) (check 6 (leb (start + n) m.length) ∷ []) two in
    record {
      starts = span.starts;
      short = span.short;
      inside = leb-true (start + n) m.length (first-allowed 5 (leb (start + n) m.length) [] three);
      lent = span.inside;
    }
