-- The frozen bytes of a list of L flags in the reference's words: 8 × ceil(L / 64) bytes; flag j of them is flag j of the list if j is
-- below L, and false from L on. Flag j of bytes is bit j mod 8 of byte j div 8.
use Rattle.std.specs.Prelude.{ℕ, ◌+◌, ◌*◌, ◌/◌, ◌≤◌, ◌<◌, ◌≡◌, Bool, false, List, length, get_or}
use Rattle.words.specs.Flags.{flag_at}
use Rattle.masks.specs.Frozen.{frozen}

pub record FrozenPlain : Type 0 where
  pub size : (l : List Bool) → length (frozen l) ≡ 8 * ((length l + 63) / 64)
  pub below : (l : List Bool) (j : ℕ) → j < length l → flag_at (frozen l) j ≡ get_or l j false
  pub past : (l : List Bool) (j : ℕ) → length l ≤ j → flag_at (frozen l) j ≡ false
