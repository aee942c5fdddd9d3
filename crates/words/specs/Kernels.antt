-- Stretches of whole words in range, which are counted with no check for partial words.
use Rattle.std.specs.Prelude.{ℕ, ◌-◌, ◌*◌, ◌/◌, ◌%◌, ◌≤◌, ◌≡◌}

-- in `size` bytes, starting at flag `start`, a stretch of `len` flags that begins at a byte, is whole words, and lies in range
pub record WholeWords (size start len : ℕ) : Type 0 where
  pub at_byte : start % 8 ≡ 0
  pub no_rest : len % 64 ≡ 0
  pub inside : 8 * (len / 64) ≤ size - start / 8
