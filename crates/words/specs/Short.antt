-- Stretches that lie in eight bytes.
use Rattle.std.specs.Prelude.{ℕ, ◌+◌, ◌/◌, ◌%◌, Bool, ◌&&◌, leb}

-- whether n flags at `start` lie in the eight bytes from the first one's byte on, and `size` bytes have these eight
unfoldable pub lies_near : ℕ → ℕ → ℕ → Bool
lies_near size start n = leb (start % 8 + n) 64 && leb (start / 8 + 8) size
