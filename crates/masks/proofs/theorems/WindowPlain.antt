-- What `get_u32` answers, in plain words (`WindowPlain` of proofs/statements/WindowPlain.antt).
use mathlib.Core.Path.{◌≡◌, refl, sym, ap, ◌∙◌}
use mathlib.Core.Bool.{Bool, false}
use mathlib.Core.List.{List}
use Prim.Native.Nat.{ℕ, ◌+◌, ◌*◌, ◌^◌, ◌≤◌, ◌<◌}
use native.Mathlib.Omega.{arith}
use lib.ListN.{length, get_or}
use Rattle.std.proofs.Math.ListN.{get_or-eq_default}
use Rattle.words.specs.Flags.{bit_at, flag_at, flags_of, window, word_of}
use Rattle.words.specs.Loops.{stretch}
use Rattle.words.proofs.flags.Windows.{length-window, at_in}
use Rattle.words.proofs.theorems.Plain.{at-stretch, at-word}
use Rattle.masks.specs.equations.Answer.{given, decided}
use Rattle.masks.specs.Bitmask.{window_word}
use Rattle.masks.specs.equations.Bitmask.{window_at}
use Rattle.masks.specs.Checks.{first_failed, limit, span_checks}
use Rattle.masks.proofs.bitmask.BitmaskLaws.{narrow}
use Rattle.masks.proofs.refusal.AnswerLaws.{given-value}
use Rattle.masks.proofs.statements.WindowPlain.{WindowPlain}
use Rattle.masks.proofs.theorems.Accepted.{span-accepted}

every_index : (bytes : List ℕ) (start n index : ℕ) → start ≤ limit → n ≤ limit → start + n ≤ 8 * length bytes
    → (w : ℕ) × (given w ≡ window_at bytes start n index)
unfolding window_at decided
every_index bytes start n index a b c =
    (window_word bytes start n index, rw (sym (span-accepted start n (length bytes) a b c)) refl)

module _ (bytes : List ℕ) (start n index w : ℕ) (e : given w ≡ window_at bytes start n index) where
  abbrev flags : List Bool
  flags = window (stretch bytes start n) index 32

  window-is : w ≡ word_of flags
  unfolding window_at window_word
  window-is = given-value (first_failed (span_checks start n (length bytes))) tt w (word_of flags) e

  -- bit k is flag index + k of the span's list
  bit : (k : ℕ) → k < 32 → bit_at w k ≡ get_or (stretch bytes start n) (index + k) false
  bit k h = ap (λ (x : ℕ). bit_at x k) window-is ∙ at-word flags k ∙ at_in (stretch bytes start n) index 32 k h

  inside : (k : ℕ) → k < 32 → index + k < n → bit_at w k ≡ flag_at bytes (start + (index + k))
  inside k h p = bit k h ∙ at-stretch bytes start n (index + k) p

  past : (k : ℕ) → k < 32 → n ≤ index + k → bit_at w k ≡ false
  past k h p =
      bit k h ∙ get_or-eq_default (stretch bytes start n) false (omega (arith, length-window (flags_of bytes) start n))

  narrow-window : w < 2 ^ 32
  narrow-window = narrow (stretch bytes start n) index 32 32 w window-is (omega arith)

pub window-plain : WindowPlain
window-plain =
    record {
      every_index = every_index;
      inside = λ bytes start n index w k e. inside bytes start n index w e k;
      past = λ bytes start n index w k e. past bytes start n index w e k;
      narrow = narrow-window;
    }
