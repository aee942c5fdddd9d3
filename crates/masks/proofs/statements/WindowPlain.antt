-- `get_u32` in plain words, at every index, however large: the index is not checked, and there are zeros from the span's end on.
use Rattle.std.specs.Prelude.{ℕ, ◌+◌, ◌*◌, ◌^◌, ◌≤◌, ◌<◌, ◌≡◌, false, List, length}
use Rattle.words.specs.Flags.{bit_at, flag_at}
use Rattle.masks.specs.equations.Answer.{given}
use Rattle.masks.specs.equations.Bitmask.{window_at}
use Rattle.masks.specs.Checks.{limit}

-- of a span of n flags that begins at flag `start` of the bytes
pub record WindowPlain : Type 0 where
  -- A span within the limit and its bytes has a window at every index.
  pub every_index : (bytes : List ℕ) (start n index : ℕ) → start ≤ limit → n ≤ limit → start + n ≤ 8 * length bytes
      → (w : ℕ) × (given w ≡ window_at bytes start n index)
  -- Bit k of the window is, by Arrow's numbering, flag index + k of the span,
  pub inside : (bytes : List ℕ) (start n index w k : ℕ) → given w ≡ window_at bytes start n index → k < 32 → index + k < n
      → bit_at w k ≡ flag_at bytes (start + (index + k))
  -- and 0 if the span has no such flag.
  pub past : (bytes : List ℕ) (start n index w k : ℕ) → given w ≡ window_at bytes start n index → k < 32 → n ≤ index + k
      → bit_at w k ≡ false
  -- It has 32 bits.
  pub narrow : (bytes : List ℕ) (start n index w : ℕ) → given w ≡ window_at bytes start n index → w < 2 ^ 32
