-- The calls that compare or count the flags of one mask or of two.
use Rattle.std.specs.Prelude.{ℕ, ◌+◌, Bool, ◌&&◌, eqb}
use Rattle.std.specs.Bool.{xor}
use mathlib.Core.List.{List, [], ◌∷◌, ◌++◌, zip_with}
use Rattle.words.specs.Flags.{count, digit}
use Rattle.masks.specs.Checks.{Check, check}
use Rattle.masks.specs.Mask.{mask_checks}
use Rattle.masks.specs.declared.bitmap.Bitmap.{Bitmap}

-- how many flags differ from the next one
unfoldable pub edges : List Bool → ℕ
edges [] = 0
edges (x ∷ []) = 0
edges (x ∷ (y ∷ l)) = digit (xor x y) + edges (y ∷ l)

-- the checks of a count of the flags that are set in both masks, whose lengths must be equal
unfoldable pub common_checks : Bitmap → List ℕ → Bitmap → List ℕ → List Check
common_checks a a_bytes b b_bytes = mask_checks a a_bytes ++ (mask_checks b b_bytes ++ (check 5 (eqb a.length b.length) ∷ []))

-- how many places have a set flag in both lists
abbrev pub common : List Bool → List Bool → ℕ
common a b = count (zip_with ◌&&◌ a b)
