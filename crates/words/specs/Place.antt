-- Flags joined to others by or.
use Rattle.std.specs.Prelude.{ℕ, Bool, ◌||◌, List, [], ◌∷◌, ◌++◌, take, drop}

-- l with m joined to its front by or: what does not fit is left out, and what follows stays
unfoldable pub or_over : List Bool → List Bool → List Bool
or_over [] m = []
or_over (x ∷ l) [] = x ∷ l
or_over (x ∷ l) (y ∷ m) = (x || y) ∷ or_over l m

-- l with m joined to it by or, starting at flag n
unfoldable pub or_at : List Bool → ℕ → List Bool → List Bool
or_at l n m = take n l ++ or_over (drop n l) m
