-- Words of a span as numbers, for functions that load a word.
use mathlib.Core.Path.{◌≡◌, ap, ◌∙◌}
use mathlib.Core.Bool.{Bool}
use mathlib.Core.List.{List}
use Prim.Native.Nat.{ℕ, ◌^◌, ◌≤◌, ◌<◌}
use native.Mathlib.Omega.{arith}
use lib.ListN.{take}
use Rattle.words.specs.Flags.{bits, window, word_of}
pub use Rattle.words.proofs.word.Loads.{whole_part, whole-stretch}
use Rattle.words.proofs.flags.Windows.{length-window, window-take, word_value}

-- the first k flags of a word that was read starting at a flag, as a number
pub low_value : (l : List Bool) (bit k w r : ℕ) → r < 2 ^ 64 → k ≤ 64 → bits 64 w ≡ window l bit 64
    → bits 64 r ≡ window (take k (bits 64 w)) 0 64 → r ≡ word_of (window l bit k)
low_value l bit k w r b h p q =
    word_value 64 (window l bit k) r b (omega (arith, length-window l bit k))
    (q ∙ ap (λ (t : List Bool). window (take k t) 0 64) p ∙ window-take l bit k 64)

-- the first k flags of a word that are those starting at a flag, as a number
pub near-value : (l : List Bool) (bit k w r : ℕ) → r < 2 ^ 64 → k ≤ 64 → take k (bits 64 w) ≡ window l bit k
    → bits 64 r ≡ window (take k (bits 64 w)) 0 64
    → r ≡ word_of (window l bit k)
near-value l bit k w r b h p q =
    word_value 64 (window l bit k) r b (omega (arith, length-window l bit k)) (q ∙ ap (λ (t : List Bool). window t 0 64) p)
