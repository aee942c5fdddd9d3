-- A window of a span as a number, at any width, for the searches and `get_u32`; and a span cut in two, for `split_at_unchecked`.
use Rattle.std.proofs.lemmas.Bool.{cases_lt}
use mathlib.Core.Path.{◌≡◌, sym, ap, ap₂, ◌∙◌}
use mathlib.Core.Bool.{Bool, false, ◌&&◌}
use mathlib.Core.List.{List, [], ◌∷◌, ◌++◌}
use mathlib.Core.Logic.{⊎_elim}
use Prim.Native.Nat.{ℕ, ◌+◌, ◌-◌, ◌^◌, ◌≤◌, ◌<◌, min}
use native.Mathlib.Nat.{lt_of_lt_of_le}
use native.Mathlib.Omega.{arith}
use lib.Dec.{leb, ltb}
use lib.ListN.{get_or}
use lib.Pow.{pow_mono, pow_pos}
use borrow.Author.Tests.{leb-true, lt-ltb, le-ltb}
use Rattle.words.specs.Flags.{bits, flags_of, window, word_of}
use Rattle.words.specs.Loops.{stretch}
use Rattle.words.proofs.flags.Bits.{bits-zero, word_of_bits, word_of_lt}
use Rattle.words.proofs.flags.Windows.{ltb-sub, length-window, window-all, window-past, window-ext, at-window, bits-window}
use Rattle.words.proofs.flags.Windows.{word_of_padded}
use Rattle.masks.specs.Bitmask.{split_checks, window_word}
use Rattle.masks.specs.Checks.{check, within_limit, first_failed, limit, span_checks}
use Rattle.masks.proofs.checks.CheckLaws.{check-allowed, both_left, both_right}

-- ---- a window of d flags

ltb-min : (d j m : ℕ) → j < d → ltb j (min d m) ≡ ltb j m
ltb-min d j m h = ⊎_elim
    (λ (k : j < m). lt-ltb j (min d m) (omega arith) ∙ sym (lt-ltb j m k))
    (λ (k : m ≤ j). le-ltb j (min d m) (omega arith) ∙ sym (le-ltb j m k))
    (cases_lt j m)

-- a window equals one of the flags in range, with zeros after them
padded : (l : List Bool) (start n index d : ℕ)
    → window (window l start n) index d ≡ window (window l (start + index) (min d (n - index))) 0 d
padded l start n index d = window-ext (window l start n) (window l (start + index) (min d (n - index))) index 0 d (λ j h.
    let z : 0 + j ≡ j = omega arith in
    let e : start + (index + j) ≡ start + index + j = omega arith in
    at-window l start n (index + j)
    ∙ ap₂ (λ (t : Bool) (x : ℕ). t && get_or l x false) (sym (ltb-min d j (n - index) h ∙ ltb-sub j n index)) e
    ∙ sym (ap (λ (x : ℕ). get_or (window l (start + index) (min d (n - index))) x false) z
    ∙ at-window l (start + index) (min d (n - index)) j))

pub narrow : (l : List Bool) (b k d r : ℕ) → r ≡ word_of (window l b k) → k ≤ d → r < 2 ^ d
narrow l b k d r e h =
    rw e (lt_of_lt_of_le (word_of_lt (window l b k)) (pow_mono (omega (arith, length-window l b k))))

pub window-value : (bytes : List ℕ) (start n index k r : ℕ) → k ≡ min (n - index) 32 → r ≡ word_of (stretch bytes (start + index) k)
    → r ≡ window_word bytes start n index
unfolding window_word
window-value bytes start n index k r e p =
    let few : k ≡ min 32 (n - index) = omega arith in
    p ∙ ap (λ (x : ℕ). word_of (window (flags_of bytes) (start + index) x)) few
    ∙ sym (ap word_of (padded (flags_of bytes) start n index 32)
    ∙ word_of_padded 32 (window (flags_of bytes) (start + index) (min 32 (n - index)))
    (omega (arith, length-window (flags_of bytes) (start + index) (min 32 (n - index)))))

-- if all its flags are in the span, the word loaded is the window
pub window-whole : (bytes : List ℕ) (start n index bit r : ℕ) → r ≡ word_of (stretch bytes bit 32) → bit ≡ start + index → index + 32 ≤ n
    → r ≡ window_word bytes start n index
window-whole bytes start n index bit r p e h =
    window-value bytes start n index 32 r (omega arith) (p ∙ ap (λ (x : ℕ). word_of (stretch bytes x 32)) e)

pub window-none : (bytes : List ℕ) (start n index : ℕ) → n ≤ index → 0 ≡ window_word bytes start n index
unfolding window_word
window-none bytes start n index h =
    sym (ap word_of (window-past (window (flags_of bytes) start n) index 32 (omega (arith, length-window (flags_of bytes) start n))
    ∙ sym (bits-zero 32))
    ∙ word_of_bits 32 0 (pow_pos 32))

-- the flags of a window's number are those of the span
pub window-flags : (bytes : List ℕ) (start n index r : ℕ) → r ≡ window_word bytes start n index
    → bits 32 r ≡ window (stretch bytes start n) index 32
unfolding window_word
window-flags bytes start n index r e =
    let w : List Bool = window (stretch bytes start n) index 32 in
    ap (bits 32) e ∙ bits-window 32 w ∙ ap (window w 0) (sym (length-window (stretch bytes start n) index 32)) ∙ window-all w

-- ---- a span cut in two

-- what follows if the checks of the cut pass
pub record SplitAllowed (start n at : ℕ) : Type 0 where
  pub starts : start + at ≤ limit
  pub reached : at ≤ n

pub split-allowed : (start n at size : ℕ) → first_failed (split_checks start n at size) ≡ 0 → SplitAllowed start n at
unfolding split_checks
split-allowed start n at size e =
    let both : first_failed ((within_limit (start + at) ∷ []) ++ (check 6 (leb at n) ∷ [])) ≡ 0 =
    both_right (span_checks start n size) (within_limit (start + at) ∷ check 6 (leb at n) ∷ []) e in
    record {
      starts =
          leb-true (start + at) limit
          (check-allowed 0 (leb (start + at) limit) (both_left (within_limit (start + at) ∷ []) (check 6 (leb at n) ∷ []) both));
      reached = leb-true at n (check-allowed 5 (leb at n) (both_right (within_limit (start + at) ∷ []) (check 6 (leb at n) ∷ []) both));
    }
