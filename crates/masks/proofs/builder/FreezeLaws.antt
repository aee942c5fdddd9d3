-- Freezing a builder: the finished words and the word in progress make the frozen bytes. For `freeze` and `into_opt_validity`.
use Rattle.std.specs.Prelude.{Some, None}
use mathlib.Core.Path.{◌≡◌, refl, sym, ap, ap₂, ◌∙◌}
use mathlib.Core.Bool.{Bool, true, false, cond}
use mathlib.Core.List.{List, [], ◌++◌}
use Prim.Native.Nat.{ℕ, ◌+◌, ◌-◌, ◌*◌, ◌/◌, ◌%◌, ◌≤◌}
use native.Mathlib.Nat.{add-zero}
use native.Mathlib.Omega.{arith}
use borrow.Author.Tests.{eq-eqb, ne_eqb}
use lib.ListN.{length, take, drop, get_or, take-append-drop}
use lib.Seq.{length-take-le}
use Rattle.words.specs.Flags.{bits, count, flags_of, over, over_at, window}
use Rattle.words.proofs.flags.Bits.{length-bits}
use Rattle.words.proofs.flags.Bytes.{length-flags, flags-over}
use Rattle.words.proofs.counts.Counting.{count-append, count-le, count-not}
use Rattle.words.proofs.theorems.Plain.{window-part, at-over}
use Rattle.words.proofs.flags.Windows.{length-window, window-add, as-window, at_in, over-append, over_none}
use Rattle.masks.specs.Builder.{filling, in_progress, builder_flags, builder_checks, none_from}
use Rattle.masks.specs.Checks.{first_failed}
use Rattle.masks.specs.Freeze.{total_ones, frozen_mask, validity_of, freeze_checks, frozen_over}
use Rattle.masks.specs.Frozen.{packed, frozen, frozen_size, over_from}
use Rattle.masks.specs.Mask.{mask_flags}
use Rattle.masks.specs.Utils.{zeros}
use Rattle.masks.specs.Workers.{Room}
use Rattle.masks.specs.declared.bitmap.Bitmap.{Bitmap}
use Rattle.masks.specs.declared.builder.BitmapBuilder.{BitmapBuilder}
use Rattle.masks.proofs.builder.AppendLaws.{low_count, low-window, window-front}
use Rattle.masks.proofs.bitmap_ops.FrozenLaws.{Small, flags-packed, written-bytes}
use Rattle.masks.proofs.builder.PushLaws.{window-after}
use Rattle.masks.proofs.builder.RoomLaws.{finished, length-flags-of}

-- the ones of a possible builder are at most its flags
pub ones-fit : (b : BitmapBuilder) (n size : ℕ) → Room b n size → total_ones b ≤ b.length
ones-fit b n size r =
    let few : b.ones ≤ 64 * (b.length / 64) = r.few in
    let low : length (take (b.length % 64) (bits 64 b.word)) ≡ b.length % 64 =
    length-take-le (b.length % 64) (bits 64 b.word) (omega (arith, length-bits 64 b.word)) in
    omega (arith, low_count (b.length % 64) b.word r.low, count-le (take (b.length % 64) (bits 64 b.word)))

-- writing the first k flags of a list and then m over it is writing m at k
over-own : (l m : List Bool) (k : ℕ) → k ≤ length l → over l (window l 0 k ++ m) ≡ over_at l k m
unfolding over_at
over-own l m k h =
    ap₂ (λ (x y : List Bool). over x (y ++ m)) (sym (take-append-drop k l)) (window-part l 0 k (omega arith))
    ∙ over-append (take k l) (take k l) (drop k l) m refl

over_at-nothing : (l : List Bool) (k : ℕ) → over_at l k [] ≡ l
unfolding over_at
over_at-nothing l k = ap (λ (t : List Bool). take k l ++ t) (over_none (drop k l)) ∙ take-append-drop k l

front-over : (l m : List Bool) → over_at l (8 * 0) m ≡ over l m
unfolding over_at
front-over l m = refl

word-after : (b : BitmapBuilder) → none_from b.word (b.length % 64) ≡ true → window (in_progress b) 0 64 ≡ bits 64 b.word
unfolding in_progress
word-after b e = sym (low-window (b.length % 64) b.word e)

no-window : (l : List Bool) (k : ℕ) → window l k 0 ≡ []
unfolding window
no-window l k = refl

module _ (b : BitmapBuilder) (bytes : List ℕ) (r : Room b 0 (length bytes)) where
  -- the frozen flags: the finished words, and the flags after them
  flags-parts : (n k : ℕ) → 8 * n ≡ 64 * (b.length / 64) + k
      → window (builder_flags (filling b bytes)) 0 (8 * n) ≡ finished (filling b bytes) ++ window (in_progress b) 0 k
  unfolding builder_flags
  flags-parts n k e =
      let long : length (finished (filling b bytes)) ≡ 64 * (b.length / 64) = length-window (flags_of bytes) 0 (64 * (b.length / 64)) in
      let z : 0 + 64 * (b.length / 64) ≡ length (finished (filling b bytes)) + 0 = omega arith in
      ap (window (finished (filling b bytes) ++ in_progress b) 0) e
      ∙ window-add (finished (filling b bytes) ++ in_progress b) 0 (64 * (b.length / 64)) k
      ∙ ap₂ (λ (x y : List Bool). x ++ y) (window-front (64 * (b.length / 64)) (finished (filling b bytes)) (in_progress b) long)
      (ap (λ (x : ℕ). window (finished (filling b bytes) ++ in_progress b) x k) z
      ∙ window-after (finished (filling b bytes)) (in_progress b) 0 k)

  freeze-flags : (out : List ℕ) (k : ℕ) → frozen_size b.length * 8 ≡ 64 * (b.length / 64) + k → Small bytes → Small out
      → flags_of out ≡ over_at (flags_of bytes) (64 * (b.length / 64)) (window (in_progress b) 0 k) → out ≡ frozen_over b bytes
  unfolding frozen_over frozen over_from
  freeze-flags out k e small small' put =
      let holds : 8 * ((b.length + 0 + 63) / 64) ≤ length bytes = r.holds in
      let e8 : 8 * frozen_size b.length ≡ 64 * (b.length / 64) + k = omega arith in
      written-bytes bytes out 0 (frozen_size b.length) (builder_flags (filling b bytes)) small small'
      (put ∙ sym (over-own (flags_of bytes) (window (in_progress b) 0 k) (64 * (b.length / 64)) (omega (arith, length-flags bytes)))
      ∙ ap (over (flags_of bytes)) (sym (flags-parts (frozen_size b.length) k e8))
      ∙ sym (front-over (flags_of bytes) (window (builder_flags (filling b bytes)) 0 (8 * frozen_size b.length))))
      ∙ ap (λ (n : ℕ). over bytes (packed (frozen_size n) (builder_flags (filling b bytes)))) (sym (length-flags-of (filling b bytes)))

  -- if there is a word in progress, storing it makes the frozen bytes
  pub freeze-word : (out : List ℕ) → (b.length % 64 ≡ 0 → ⊥) → Small bytes → Small out
      → flags_of out ≡ over_at (flags_of bytes) (8 * (8 * (b.length / 64))) (bits 64 b.word)
      → out ≡ frozen_over b bytes
  freeze-word out h small small' put =
      let at : 8 * (8 * (b.length / 64)) ≡ 64 * (b.length / 64) = omega arith in
      let e : frozen_size b.length * 8 ≡ 64 * (b.length / 64) + 64 = omega arith in
      freeze-flags out 64 e small small' (put ∙ ap₂ (over_at (flags_of bytes)) at (sym (word-after b r.low)))

  -- if there is none, the buffer holds the frozen bytes already
  pub freeze-whole : b.length % 64 ≡ 0 → Small bytes → bytes ≡ frozen_over b bytes
  freeze-whole h small =
      let e : frozen_size b.length * 8 ≡ 64 * (b.length / 64) + 0 = omega arith in
      freeze-flags bytes 0 e small small (sym (ap (over_at (flags_of bytes) (64 * (b.length / 64))) (no-window (in_progress b) 0)
      ∙ over_at-nothing (flags_of bytes) (64 * (b.length / 64))))

-- ---- the calls

-- the checks of `freeze` are those of an append of no flags
pub same-checks : (b : BitmapBuilder) (size r : ℕ) → r ≡ first_failed (builder_checks b (b.length + 0) size)
    → r ≡ first_failed (freeze_checks b size)
same-checks b size r e = e ∙ ap (λ (n : ℕ). first_failed (builder_checks b n size)) (add-zero b.length)

pub all_set : (b : BitmapBuilder) (n : ℕ) → n ≡ total_ones b → n ≡ b.length → None ≡ validity_of b
all_set b n e h = ap (λ (t : Bool). cond t None (Some (frozen_mask b))) (sym (eq-eqb (total_ones b) b.length (sym e ∙ h)))

pub not-all-set : (b : BitmapBuilder) (n : ℕ) (m : Bitmap) → n ≡ total_ones b → (n ≡ b.length → ⊥) → m ≡ frozen_mask b
    → Some m ≡ validity_of b
not-all-set b n m e h p =
    ap Some p ∙ ap (λ (t : Bool). cond t None (Some (frozen_mask b))) (sym (ne_eqb (total_ones b) b.length (λ q. h (e ∙ q))))

-- ---- the flags of the frozen bytes, and the count

-- a buffer with a list's frozen bytes written over its front begins with the list's flags
pub frozen-front : (bytes : List ℕ) (l : List Bool) → frozen_size (length l) ≤ length bytes
    → window (flags_of (over bytes (frozen l))) 0 (length l) ≡ l
unfolding frozen
frozen-front bytes l h =
    let flags : flags_of (over bytes (packed (frozen_size (length l)) l))
    ≡ over (flags_of bytes) (window l 0 (8 * frozen_size (length l))) =
    flags-over bytes (packed (frozen_size (length l)) l) ∙ ap (over (flags_of bytes)) (flags-packed (frozen_size (length l)) l) in
    sym (as-window l (flags_of (over bytes (packed (frozen_size (length l)) l))) 0 (length l) refl (λ j b.
    let z : 0 + j ≡ j = omega arith in
    sym (ap₂ (λ (t : List Bool) (x : ℕ). get_or t x false) flags z
    ∙ at-over (flags_of bytes) (window l 0 (8 * frozen_size (length l))) j false
    (omega (arith, length-window l 0 (8 * frozen_size (length l)))) (omega (arith, length-flags bytes))
    ∙ at_in l 0 (8 * frozen_size (length l)) j (omega arith) ∙ ap (λ (x : ℕ). get_or l x false) z)))

-- the mask's flags are the builder's
pub frozen-flags : (b : BitmapBuilder) (bytes : List ℕ) → Room b 0 (length bytes)
    → mask_flags (frozen_mask b) (frozen_over b bytes) ≡ builder_flags (filling b bytes)
unfolding frozen_over
frozen-flags b bytes r =
    let holds : 8 * ((b.length + 0 + 63) / 64) ≤ length bytes = r.holds in
    ap (window (flags_of (over bytes (frozen (builder_flags (filling b bytes))))) 0) (sym (length-flags-of (filling b bytes)))
    ∙ frozen-front bytes (builder_flags (filling b bytes)) (omega (arith, length-flags-of (filling b bytes)))

progress-count : (b : BitmapBuilder) → none_from b.word (b.length % 64) ≡ true → count (in_progress b) ≡ count (bits 64 b.word)
unfolding in_progress
progress-count b e = low_count (b.length % 64) b.word e

-- if `ones` counts the ones of the finished words, `total_ones` counts those of all the builder's flags,
pub true-ones : (b : BitmapBuilder) (bytes : List ℕ) → Room b 0 (length bytes) → b.ones ≡ count (finished (filling b bytes))
    → total_ones b ≡ count (builder_flags (filling b bytes))
unfolding builder_flags
true-ones b bytes r e =
    ap₂ (λ (x y : ℕ). x + y) e (sym (progress-count b r.low)) ∙ sym (count-append (finished (filling b bytes)) (in_progress b))

-- and the known count is the number of its zeros
pub true-zeros : (b : BitmapBuilder) (bytes : List ℕ) → Room b 0 (length bytes) → b.ones ≡ count (finished (filling b bytes))
    → b.length - total_ones b ≡ zeros (builder_flags (filling b bytes))
unfolding zeros
true-zeros b bytes r e =
    omega (arith, true-ones b bytes r e, count-not (builder_flags (filling b bytes)), length-flags-of (filling b bytes))
