-- Rows of flags as numbers, and what transposing a square of them means.
use Rattle.std.specs.Prelude.{◌≡◌, ℕ, ◌+◌, ◌*◌, ◌<◌, ◌≤◌, List, length, slice_index}
use Rattle.std.specs.Int.{bit_at}

-- bit c of row r
abbrev pub bit_in : List ℕ → ℕ → ℕ → ℕ
bit_in rows r c = bit_at (slice_index rows r) c

-- Bits are counted by blocks of 2 * h: bit c of block b, in its low half, and in its high half.
abbrev pub low : ℕ → ℕ → ℕ → ℕ
low h b c = b * (2 * h) + c

abbrev pub high : ℕ → ℕ → ℕ → ℕ
high h b c = b * (2 * h) + (h + c)

-- m has the low half of each block
pub record IsMask (h m : ℕ) : Type 0 where
  pub ones : (b c : ℕ) → c < h → high h b c < 64 → bit_at m (low h b c) ≡ 1
  pub none : (b c : ℕ) → c < h → high h b c < 64 → bit_at m (high h b c) ≡ 0

-- of each block the high half of x is exchanged with the low half of y
pub record PairExchanged (h x y x' y' : ℕ) : Type 0 where
  pub first_low : (b c : ℕ) → c < h → high h b c < 64 → bit_at x' (low h b c) ≡ bit_at x (low h b c)
  pub first_high : (b c : ℕ) → c < h → high h b c < 64 → bit_at x' (high h b c) ≡ bit_at y (low h b c)
  pub second_low : (b c : ℕ) → c < h → high h b c < 64 → bit_at y' (low h b c) ≡ bit_at x (high h b c)
  pub second_high : (b c : ℕ) → c < h → high h b c < 64 → bit_at y' (high h b c) ≡ bit_at y (high h b c)

pub record HalvesExchanged (h : ℕ) (old new : List ℕ) : Type 0 where
  pub long : length new ≡ length old
  pub pairs : (r : ℕ) → r < h → PairExchanged h (slice_index old r) (slice_index old (r + h)) (slice_index new r) (slice_index new (r + h))

-- each block of `width` columns of as many rows is transposed
pub record Transposed (width : ℕ) (old new : List ℕ) : Type 0 where
  pub long : length new ≡ length old
  pub bits : (b r c : ℕ) → r < width → c < width → b * width + width ≤ 64 → bit_in new r (b * width + c) ≡ bit_in old c (b * width + r)
