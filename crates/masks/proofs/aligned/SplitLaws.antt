-- The aligned split: its parts are in bounds, and joined they are the span's flags. For `AlignedBitmapSlice` and the five counts.
use mathlib.Core.Path.{◌≡◌, refl, sym, ap, ap₂, ◌∙◌}
use mathlib.Core.Bool.{Bool, true, false, cond}
use mathlib.Core.List.{List, [], ◌++◌}
use Prim.Native.Nat.{ℕ, zero, suc, ◌+◌, ◌-◌, ◌*◌, ◌/◌, ◌%◌, ◌≤◌, ◌<◌}
use native.Mathlib.Omega.{arith}
use lib.Dec.{leb}
use lib.ListN.{take}
use Rattle.words.specs.Flags.{bits, count, flags_of, window, word_of}
use Rattle.words.specs.Loops.{stretch}
use mathlib.Core.Logic.{◌⊎◌, inl, inr}
use borrow.Author.Tests.{le-leb, leb-true, leb-false}
use Rattle.words.proofs.flags.Windows.{length-window, window-add, window-cut, window-all, bits-window}
use Rattle.masks.specs.Aligned.{bytes_to_aligned, bulk_offset, prefix_length, bulk_start_of, bulk_length, suffix_length}
use Rattle.masks.specs.Aligned.{aligned_split, aligned_checks}
use Rattle.masks.specs.equations.Aligned.{empty_split}
use Rattle.masks.specs.declared.aligned.AlignedBitmapSlice.{AlignedBitmapSlice}
use Rattle.masks.specs.Checks.{first_failed, limit, span_checks, address_checks}
use Rattle.masks.specs.Workers.{split_flags}
use Rattle.masks.proofs.checks.CheckLaws.{by-test, both_left, both_right, span-allowed, address_allowed}

-- a split of a span within the flag limit: what the counts over its parts require
pub record Bounded (s : AlignedBitmapSlice) : Type 0 where
  pub prefix_fits : s.prefix_len ≤ 64
  pub suffix_fits : s.suffix_len ≤ 64
  pub bulk_starts : s.bulk_start ≤ limit
  pub bulk_fits : s.bulk_len ≤ limit / 64

-- the first whole word begins at or after the span's first flag, and at most a word after its first byte
pub record Offset (start offset : ℕ) : Type 0 where
  pub low : start % 8 ≤ 8 * offset
  pub high : offset ≤ 8

pub offset-of : (start address : ℕ) → Offset start (bulk_offset start address)
unfolding bulk_offset
offset-of start address =
    by-test (Offset start) (start % 8) (8 * bytes_to_aligned start address) (bytes_to_aligned start address)
    (bytes_to_aligned start address + 8)
    (λ h. record { low = h; high = omega arith })
    (λ h. record { low = omega arith; high = omega arith })

-- a prefix of p flags, and whole words that start at byte b
pub record Placed (start n p b : ℕ) : Type 0 where
  pub fits : p ≤ n
  pub word : p ≤ 64
  pub starts : (n ≡ p) ⊎ (8 * b ≡ start + p)
  pub near : b ≤ start / 8 + 8

both-tests : (P : ℕ → ℕ → Type 0) (t : Bool) (x y u v : ℕ) → (t ≡ true → P x u) → (t ≡ false → P y v) → P (cond t x y) (cond t u v)
both-tests P true x y u v p q = p refl
both-tests P false x y u v p q = q refl

pub placed : (start n address : ℕ) → Placed start n (prefix_length start n address) (bulk_start_of start n address)
unfolding prefix_length bulk_start_of
placed start n address =
    let o : Offset start (bulk_offset start address) = offset-of start address in
    both-tests (Placed start n) (leb (start % 8 + n) 64) n (8 * bulk_offset start address - start % 8) 0
    (start / 8 + bulk_offset start address)
    (λ e. let h : start % 8 + n ≤ 64 = leb-true (start % 8 + n) 64 e in record {
      fits = omega arith;
      word = omega arith;
      starts = inl refl;
      near = omega arith;
    })
    (λ e. let h : 64 < start % 8 + n = leb-false (start % 8 + n) 64 e in
    let low : start % 8 ≤ 8 * bulk_offset start address = o.low in
    let high : bulk_offset start address ≤ 8 = o.high in
    record { fits = omega arith; word = omega arith; starts = inr (omega arith); near = omega arith })

window-none : (l : List Bool) (x : ℕ) → [] ≡ window l x 0
unfolding window
window-none l x = refl

-- the first p flags of the word of p flags are these flags
word_flags_lem : (l : List Bool) (s p : ℕ) → p ≤ 64 → take p (bits 64 (word_of (window l s p))) ≡ window l s p
word_flags_lem l s p h =
    ap (take p) (bits-window 64 (window l s p))
    ∙ window-cut (window l s p) 0 64 0 p (omega arith) ∙ zero-window
  where
    zero-window : window (window l s p) (0 + 0) p ≡ window l s p
    zero-window = ap (λ (n : ℕ). window (window l s p) 0 n) (sym (length-window l s p)) ∙ window-all (window l s p)

-- the flags of the three parts, joined, are the span's
three-parts : (l : List Bool) (start n p b : ℕ) → Placed start n p b
    → window l start p ++ (window l (8 * b) (64 * ((n - p) / 64)) ++ window l (start + n - (n - p) % 64) ((n - p) % 64)) ≡ window l start n
three-parts l start n p b h =
    let fits : p ≤ n = h.fits in
    let en : n ≡ p + (64 * ((n - p) / 64) + (n - p) % 64) = omega arith in
    let es : start + n - (n - p) % 64 ≡ start + p + 64 * ((n - p) / 64) = omega arith in
    ap (λ (t : List Bool). window l start p ++ t)
    (ap₂ (λ (s t : List Bool). s ++ t) (middle h.starts) (ap (λ (x : ℕ). window l x ((n - p) % 64)) es)
    ∙ sym (window-add l (start + p) (64 * ((n - p) / 64)) ((n - p) % 64)))
    ∙ sym (window-add l start p (64 * ((n - p) / 64) + (n - p) % 64)) ∙ ap (window l start) (sym en)
  where
    no-window : (x y : ℕ) → window l x 0 ≡ window l y 0
    no-window x y = sym (window-none l x) ∙ window-none l y

    middle : (n ≡ p) ⊎ (8 * b ≡ start + p) → window l (8 * b) (64 * ((n - p) / 64)) ≡ window l (start + p) (64 * ((n - p) / 64))
    middle (inl e) =
        let z : 64 * ((n - p) / 64) ≡ 0 = omega arith in
        ap (window l (8 * b)) z ∙ no-window (8 * b) (start + p) ∙ ap (window l (start + p)) (sym z)
    middle (inr e) = ap (λ (x : ℕ). window l x (64 * ((n - p) / 64))) e

pub split-flags : (bytes : List ℕ) (start n address : ℕ) → split_flags bytes (aligned_split bytes start n address) ≡ stretch bytes start n
unfolding split_flags
split-flags bytes start n address =
    let h : Placed start n (prefix_length start n address) (bulk_start_of start n address) = placed start n address in
    let low : suffix_length start n address ≤ 64 = omega arith in
    ap₂ (λ (s t : List Bool). s ++ (window (flags_of bytes) (8 * bulk_start_of start n address) (64 * bulk_length start n address) ++ t))
    (word_flags_lem (flags_of bytes) start (prefix_length start n address) h.word)
    (word_flags_lem (flags_of bytes) (start + n - suffix_length start n address) (suffix_length start n address) low)
    ∙ three-parts (flags_of bytes) start n (prefix_length start n address) (bulk_start_of start n address) h

-- ---- what a count over a split needs

pub split-bounded : (bytes : List ℕ) (start n address : ℕ) → start ≤ 2 * limit → n ≤ limit → Bounded (aligned_split bytes start n address)
split-bounded bytes start n address hs hn =
    let h : Placed start n (prefix_length start n address) (bulk_start_of start n address) = placed start n address in
    let near : bulk_start_of start n address ≤ start / 8 + 8 = h.near in
    record { prefix_fits = h.word; suffix_fits = omega arith; bulk_starts = omega arith; bulk_fits = omega arith }

-- a number that is f of a split's flags is f of the span's flags
pub split-number : (f : List Bool → ℕ) (bytes : List ℕ) (start n address c : ℕ) (s : AlignedBitmapSlice)
    → s ≡ aligned_split bytes start n address → c ≡ f (split_flags bytes s) → c ≡ f (stretch bytes start n)
split-number f bytes start n address c s e p =
    p ∙ ap (λ (t : AlignedBitmapSlice). f (split_flags bytes t)) e ∙ ap f (split-flags bytes start n address)

-- the ones of a split are the span's
pub split-count : (bytes : List ℕ) (start n address c : ℕ) (s : AlignedBitmapSlice)
    → s ≡ aligned_split bytes start n address → c ≡ count (split_flags bytes s) → c ≡ count (stretch bytes start n)
split-count = split-number count

-- what follows if the checks of a span with an address pass
pub aligned-allowed : (start n size address : ℕ) → first_failed (aligned_checks start n size address) ≡ 0
    → (start ≤ 2 * limit) × ((n ≤ limit) × (address ≤ 7))
unfolding aligned_checks
aligned-allowed start n size address e =
    let span = span-allowed start n size (both_left (span_checks start n size) (address_checks address) e) in
    (omega (arith, span.starts), (span.short, address_allowed address (both_right (span_checks start n size) (address_checks address) e)))

-- ---- the split of no flags

-- a split of no flags with a prefix of p flags and whole words that start at byte b
abbrev split-by : List ℕ → ℕ → ℕ → ℕ → AlignedBitmapSlice
split-by bytes start p b =
    record {
      prefix = word_of (stretch bytes start p);
      prefix_len = p;
      bulk_start = b;
      bulk_len = (0 - p) / 64;
      suffix = word_of (stretch bytes (start + 0 - (0 - p) % 64) ((0 - p) % 64));
      suffix_len = (0 - p) % 64;
    }

pub split-none : (bytes : List ℕ) (start n address : ℕ) → n ≡ 0 → aligned_split bytes start n address ≡ empty_split
unfolding prefix_length bulk_start_of window word_of
split-none bytes start zero address e =
    let s : leb (start % 8 + 0) 64 ≡ true = le-leb (start % 8 + 0) 64 (omega arith) in
    ap (λ (t : Bool).
    split-by bytes start (cond t 0 (8 * bulk_offset start address - start % 8)) (cond t 0 (start / 8 + bulk_offset start address))) s
split-none bytes start (suc n) address e = absurd (omega arith)
