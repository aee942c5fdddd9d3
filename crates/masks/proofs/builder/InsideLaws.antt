-- Flags for which the word in progress has room: what is needed to join them to it. Also: a constant with room passes its
-- checks.
use mathlib.Core.Path.{◌≡◌, refl, sym, ap, ap₂, ◌∙◌}
use mathlib.Core.Bool.{Bool, true, not}
use mathlib.Core.List.{List, [], ◌∷◌, ◌++◌}
use Prim.Native.Nat.{ℕ, ◌+◌, ◌-◌, ◌%◌, ◌≤◌, ◌<◌}
use native.Mathlib.Omega.{arith}
use lib.Dec.{leb}
use lib.ListN.{length, take, drop, length-drop, take-append-drop}
use borrow.Author.Tests.{le-leb}
use Rattle.words.specs.Counts.{any_set}
use Rattle.words.specs.Flags.{bits, window}
use Rattle.words.proofs.word.Loads.{from_end}
use Rattle.words.proofs.theorems.Plain.{window-part}
use Rattle.words.proofs.flags.Windows.{bits-window, window-drop}
use Rattle.masks.specs.Appends.{constant_checks}
use Rattle.masks.specs.Builder.{none_from, builder_checks}
use Rattle.masks.specs.Checks.{first_failed, limit, within_limit}
use Rattle.masks.specs.Workers.{Inside, Room}
use Rattle.masks.specs.declared.builder.BitmapBuilder.{BitmapBuilder}
use Rattle.masks.proofs.theorems.Accepted.{builder-accepted}
use Rattle.masks.proofs.builder.AppendLaws.{word_back}
use Rattle.masks.proofs.checks.CheckLaws.{none-earlier, one-check, two_pieces}
use Rattle.masks.proofs.builder.ExtendLaws.{stretch-front}
use Rattle.masks.proofs.utils.PartLaws.{length-low}
use Rattle.masks.proofs.builder.RoomLaws.{none-after}

-- ---- a word of k flags with zeros after them

pub none-padded : (l : List Bool) (k v : ℕ) → length l ≡ k → k ≤ 64 → bits 64 v ≡ window l 0 64 → none_from v k ≡ true
none-padded l k v e h p = ap (λ (t : List Bool). not (any_set (drop k t))) (p ∙ sym (bits-window 64 l)) ∙ none-after l k e h

pub front-padded : (l : List Bool) (k v : ℕ) → length l ≡ k → k ≤ 64 → bits 64 v ≡ window l 0 64 → take k (bits 64 v) ≡ l
front-padded l k v e h p = ap (take k) (p ∙ sym (bits-window 64 l)) ∙ word_back l k e h

-- ---- the k low flags of a word, cut in two: the first a and the rest

module _ (word flags rest k a : ℕ) (most : k ≤ 64) (less : a ≤ k) (low : bits 64 flags ≡ window (take k (bits 64 word)) 0 64)
    (moved : bits 64 rest ≡ window (bits 64 flags) a 64) where
  long : length (take k (bits 64 word)) ≡ k
  long = length-low k word most

  pub length-rest : length (drop a (take k (bits 64 word))) ≡ k - a
  length-rest = omega (arith, long, length-drop a (take k (bits 64 word)))

  pub rest-padded : bits 64 rest ≡ window (drop a (take k (bits 64 word))) 0 64
  rest-padded =
      let z : a + 0 ≡ a = omega arith in
      from_end (take k (bits 64 word)) 0 a a flags rest (omega (arith, long)) (omega arith) low moved
      ∙ sym (window-drop (take k (bits 64 word)) a 0 64 ∙ ap (λ (x : ℕ). window (take k (bits 64 word)) x 64) z)

  pub cut-whole : take a (bits 64 flags) ++ take (k - a) (bits 64 rest) ≡ take k (bits 64 word)
  cut-whole =
      ap₂ (λ (x y : List Bool). x ++ y)
      (stretch-front (take k (bits 64 word)) 0 a flags (omega arith) low ∙ window-part (take k (bits 64 word)) 0 a (omega (arith, long)))
      (front-padded (drop a (take k (bits 64 word))) (k - a) rest length-rest (omega arith) rest-padded)
      ∙ take-append-drop a (take k (bits 64 word))

-- a word of k flags that fit may be joined to the word in progress
pub inside-padded : (b : BitmapBuilder) (l : List Bool) (k v m size : ℕ) → Room b m size → b.length % 64 + k < 64 → length l ≡ k
    → bits 64 v ≡ window l 0 64 → Inside b v k
inside-padded b l k v m size r h e p =
    let short : b.length + m ≤ limit = r.short in
    record { short = omega arith; room = h; low = r.low; few = none-padded l k v e (omega arith) p }

-- ---- the checks of a constant

-- a builder with room for n flags passes the checks of a constant of n flags
pub constant-passed : (b : BitmapBuilder) (n size : ℕ) → Room b n size → 0 ≡ first_failed (constant_checks b size n)
unfolding constant_checks
constant-passed b n size r =
    let short : b.length + n ≤ limit = r.short in
    two_pieces 0 0 0 (builder_checks b (b.length + n) size) (within_limit n ∷ []) (sym (none-earlier 0)) (builder-accepted b n size r)
    (one-check 0 1 true (leb n limit) refl (sym (le-leb n limit (omega arith))))
