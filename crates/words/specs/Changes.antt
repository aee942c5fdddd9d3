-- Flags that differ from the one before them.
use Rattle.std.specs.Prelude.{ℕ, zero, suc, Bool, true, false, not, List, [], ◌∷◌}
use Rattle.std.specs.Bool.{xor}

-- for each flag of a list whether it differs from the one before it; before the first one is x
unfoldable pub changes : Bool → List Bool → List Bool
changes x [] = []
changes x (y ∷ l) = xor x y ∷ changes y l

-- n flags, the first of which is x, and each later one differs from the one before it
unfoldable pub alternating : ℕ → Bool → List Bool
alternating zero x = []
alternating (suc n) x = x ∷ alternating n (not x)

-- a list with its first set flag cleared
unfoldable pub without_first : List Bool → List Bool
without_first [] = []
without_first (true ∷ l) = false ∷ l
without_first (false ∷ l) = false ∷ without_first l
