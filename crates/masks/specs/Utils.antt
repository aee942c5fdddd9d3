-- Counts over bare spans: zeros, and equal flags in a row at either end.
use Rattle.std.specs.Prelude.{ℕ, Bool, not, List, map}
use Rattle.words.specs.Flags.{count}

-- how many flags are zero
unfoldable pub zeros : List Bool → ℕ
zeros l = count (map not l)
