-- Three stretches combined, of which n words were read; after these all three have ended, or the length has.
use Rattle.std.proofs.Common.{◌≡◌, ap, sym, ◌∙◌, Bool, false, ◌&&◌, List, [], ℕ, ◌+◌, ◌-◌, ◌*◌, ◌≤◌, ◌<◌, arith, ltb, length}
use Rattle.words.specs.Flags.{bits, copies, count, digit, flags_of, window}
use Rattle.words.specs.Ops.{zip3}
use Rattle.words.specs.Counts.{any_set}
use Rattle.words.proofs.counts.AnyFlag.{any-copies, any_after}
use Rattle.words.proofs.flags.Bits.{bits-zero}
use Rattle.words.proofs.flags.Bytes.{length-flags}
use Rattle.words.proofs.ops.Combining.{length-zip, zip-after, zip-past}
use Rattle.words.proofs.counts.Counting.{count-after}
use Rattle.words.proofs.flags.Windows.{window-past}

-- three words of zeros combined: each flag is the one of three zeros
pub any-zeros : (f : Bool → Bool → Bool → Bool) → any_set (zip3 f (bits 64 0) (bits 64 0) (bits 64 0)) ≡ f false false false
any-zeros f =
    let zeros : bits 64 0 ≡ window [] 0 64 = bits-zero 64 ∙ sym (window-past [] 0 64 (omega arith)) in
    ap (λ (l : List Bool). any_set (zip3 f l l l)) zeros
    ∙ ap any_set (zip-past f [] [] [] 0 0 0 64 (omega arith) (omega arith) (omega arith)) ∙ any-copies 64 (f false false false)

-- three lists of bytes that end within n words
pub record Ended (a b c : List ℕ) (n : ℕ) : Type 0 where
  pub in_a : length a ≤ 8 * n
  pub in_b : length b ≤ 8 * n
  pub in_c : length c ≤ 8 * n

module _ (f : Bool → Bool → Bool → Bool) (a b c : List ℕ) (p q r len n : ℕ) (ended : 64 * n < len → Ended a b c n) where
  flags-end : (l : List ℕ) (k : ℕ) → length l ≤ 8 * n → length (flags_of l) ≤ k + 64 * n
  flags-end l k h = omega (arith, length-flags l)

  after : 64 * n < len
      → window (zip3 f (window (flags_of a) p len) (window (flags_of b) q len) (window (flags_of c) r len)) (64 * n) (len - 64 * n)
      ≡ copies (len - 64 * n) (f false false false)
  after h =
      zip-after f (flags_of a) (flags_of b) (flags_of c) p q r len (64 * n) (omega arith)
      (flags-end a p (ended h).in_a) (flags-end b q (ended h).in_b) (flags-end c r (ended h).in_c)

  pub count-finish : (i x d : ℕ)
      → x ≡ count (window (zip3 f (window (flags_of a) p len) (window (flags_of b) q len) (window (flags_of c) r len)) 0 (64 * i))
      → i ≤ n → n ≤ i → d ≡ (len - 64 * n) * digit (f false false false)
      → x + d ≡ count (zip3 f (window (flags_of a) p len) (window (flags_of b) q len) (window (flags_of c) r len))
  count-finish i x d e h k u =
      let m : i ≡ n = omega arith in
      count-after (zip3 f (window (flags_of a) p len) (window (flags_of b) q len) (window (flags_of c) r len)) len (64 * n) x d
      (f false false false)
      (e ∙ ap (λ (j : ℕ). count
      (window (zip3 f (window (flags_of a) p len) (window (flags_of b) q len) (window (flags_of c) r len)) 0 (64 * j))) m)
      (length-zip f (flags_of a) (flags_of b) (flags_of c) p q r len) u after

  pub any-finish : (i : ℕ) (t : Bool)
      → 0 ≡ count (window (zip3 f (window (flags_of a) p len) (window (flags_of b) q len) (window (flags_of c) r len)) 0 (64 * i))
      → i ≤ n → n ≤ i → t ≡ (ltb (64 * n) len && f false false false)
      → t ≡ any_set (zip3 f (window (flags_of a) p len) (window (flags_of b) q len) (window (flags_of c) r len))
  any-finish i t e h k u =
      let m : i ≡ n = omega arith in
      any_after (zip3 f (window (flags_of a) p len) (window (flags_of b) q len) (window (flags_of c) r len)) len (64 * n)
      (f false false false) t
      (e ∙ ap (λ (j : ℕ). count
      (window (zip3 f (window (flags_of a) p len) (window (flags_of b) q len) (window (flags_of c) r len)) 0 (64 * j))) m)
      (length-zip f (flags_of a) (flags_of b) (flags_of c) p q r len) u after
