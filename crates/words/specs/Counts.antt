-- Whether a flag of a list is set, and whether two lists are equal.
use Rattle.std.specs.Prelude.{Bool, true, false, not, ◌&&◌, ◌||◌, List, [], ◌∷◌}
use Rattle.std.specs.Bool.{xor}

-- whether any flag of the list is set
unfoldable pub any_set : List Bool → Bool
any_set [] = false
any_set (x ∷ l) = x || any_set l

-- whether two lists are equal, flag by flag and in length
unfoldable pub same_flags : List Bool → List Bool → Bool
same_flags [] [] = true
same_flags [] (y ∷ b) = false
same_flags (x ∷ a) [] = false
same_flags (x ∷ a) (y ∷ b) = not (xor x y) && same_flags a b
