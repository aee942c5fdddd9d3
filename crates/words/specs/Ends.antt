-- How many flags at either end of a list are equal.
use Rattle.std.specs.Prelude.{ℕ, suc, Bool, true, false, List, [], ◌∷◌, reverse}

-- how many flags equal to x the list l begins with
unfoldable pub leading : Bool → List Bool → ℕ
leading x [] = 0
leading true (true ∷ l) = suc (leading true l)
leading true (false ∷ l) = 0
leading false (true ∷ l) = 0
leading false (false ∷ l) = suc (leading false l)

-- how many flags equal to x the list l ends with: those that its reversed list begins with
unfoldable pub trailing : Bool → List Bool → ℕ
trailing x l = leading x (reverse l)
