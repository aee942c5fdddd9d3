-- What is accepted, for theorems that make calls: a span in its bytes and within the limit, with an unknown or a true count, passes the
-- checks of a mask; so do the masks that calls return. Also: the whole words of a split begin at an address divisible by 8.
use mathlib.Core.Path.{◌≡◌, refl}
use mathlib.Core.Bool.{Bool, true, false, cond}
use mathlib.Core.List.{List, [], ◌∷◌, ◌++◌}
use Prim.Native.Nat.{ℕ, ◌+◌, ◌*◌, ◌/◌, ◌%◌, ◌≤◌, ◌<◌}
use native.Mathlib.Omega.{arith}
use lib.Dec.{leb}
use lib.ListN.{length}
use borrow.Author.Tests.{le-leb, lt-leb}
use Rattle.words.specs.Flags.{flags_of}
use Rattle.words.proofs.flags.Windows.{length-window}
use Rattle.masks.specs.Aligned.{bulk_offset, bulk_start_of, bytes_to_aligned, short}
use Rattle.masks.specs.Appends.{grow_checks, inner_checks, subslice_checks}
use Rattle.masks.specs.Builder.{builder_checks, possible}
use Rattle.masks.specs.Checks.{check, earlier, first_failed, limit, output_checks, span_checks}
use Rattle.masks.specs.Mask.{count_valid, mask_checks, mask_flags, mask_of, uncounted}
use Rattle.masks.proofs.statements.TrueCounts.{Truthful}
use Rattle.masks.specs.Workers.{Room}
use Rattle.masks.specs.declared.bitmap.Bitmap.{Bitmap}
use Rattle.masks.specs.declared.builder.BitmapBuilder.{BitmapBuilder}
use Rattle.masks.proofs.checks.CheckLaws.{passed-before, span-allowed}
use Rattle.masks.proofs.bitmap.MaskLaws.{true-valid}
use Rattle.masks.proofs.theorems.SliceTruth.{none_true}

-- every span within the limit and its bytes is accepted,
pub span-accepted : (start n size : ℕ) → start ≤ limit → n ≤ limit → start + n ≤ 8 * size → 0 ≡ first_failed (span_checks start n size)
unfolding span_checks first_failed earlier
span-accepted start n size a b c = rw (le-leb start limit a, le-leb n limit b, le-leb (start + n) (8 * size) c)

-- and so is a mask over it with an unknown or a true count
pub mask-accepted : (m : Bitmap) (bytes : List ℕ) → m.start ≤ limit → m.length ≤ limit → m.start + m.length ≤ 8 * length bytes
    → Truthful m bytes
    → 0 ≡ first_failed (mask_checks m bytes)
unfolding mask_checks first_failed earlier
mask-accepted m bytes a b c t =
    passed-before (span_checks m.start m.length (length bytes)) (check 3 (count_valid m bytes) ∷ []) 0 0
    (span-accepted m.start m.length (length bytes) a b c) refl
    (rw (true-valid m.unset (mask_flags m bytes) t))

-- the mask that `try_new` returns is accepted
pub new-accepted : (bytes : List ℕ) (start n : ℕ) → first_failed (span_checks start n (length bytes)) ≡ 0
    → 0 ≡ first_failed (mask_checks (mask_of start n (uncounted n)) bytes)
new-accepted bytes start n e =
    let a = span-allowed start n (length bytes) e in
    mask-accepted (mask_of start n (uncounted n)) bytes a.starts a.short a.inside
    (none_true n (mask_flags (mask_of start n (uncounted n)) bytes) (length-window (flags_of bytes) start n))

-- ---- builders

inner-accepted : (start n whole : ℕ) → start ≤ limit → n ≤ limit → start + n ≤ whole → 0 ≡ first_failed (inner_checks start n whole)
unfolding inner_checks first_failed earlier
inner-accepted start n whole a b c = rw (le-leb start limit a, le-leb n limit b, le-leb (start + n) whole c)

-- a builder with room for n more flags passes the checks of a call that appends n flags
pub builder-accepted : (b : BitmapBuilder) (n size : ℕ) → Room b n size → 0 ≡ first_failed (builder_checks b (b.length + n) size)
unfolding builder_checks possible output_checks first_failed earlier
builder-accepted b n size r =
    let whole : 8 * (b.length / 64) ≤ size = omega (arith, r.holds) in
    rw (
      le-leb b.length limit (omega (arith, r.short)),
      le-leb (b.length + n) limit r.short,
      r.low,
      le-leb b.ones (64 * (b.length / 64)) r.few,
      le-leb (8 * (b.length / 64)) size whole,
      le-leb (8 * ((b.length + n + 63) / 64)) size r.holds,
    )

-- appending a whole mask is accepted by a builder with room for it
pub whole-accepted : (b : BitmapBuilder) (buf : List ℕ) (m : Bitmap) (bytes : List ℕ) → 0 ≡ first_failed (mask_checks m bytes)
    → m.length ≤ limit → Room b m.length (length buf)
    → 0 ≡ first_failed (subslice_checks b buf m bytes 0 m.length)
unfolding subslice_checks
whole-accepted b buf m bytes a short r =
    passed-before (mask_checks m bytes) (inner_checks 0 m.length m.length ++ grow_checks b m.length (length buf)) 0 0 a refl
    (passed-before (inner_checks 0 m.length m.length) (grow_checks b m.length (length buf)) 0 0
    (inner-accepted 0 m.length m.length (omega arith) short (omega arith)) refl
    (builder-accepted b m.length (length buf) r))

-- ---- the split

-- the whole words of a span that does not fit one word begin at an address divisible by 8
pub bulk_aligned : (start n address : ℕ) → 64 < start % 8 + n → (address + bulk_start_of start n address) % 8 ≡ 0
unfolding bulk_start_of bulk_offset bytes_to_aligned
bulk_aligned start n address h = rw (lt-leb (start % 8 + n) 64 h) (go (leb (start % 8) (8 * bytes_to_aligned start address)))
  where
    go : (t : Bool) → (address + (start / 8 + cond t (bytes_to_aligned start address) (bytes_to_aligned start address + 8))) % 8 ≡ 0
    go true = omega arith
    go false = omega arith
