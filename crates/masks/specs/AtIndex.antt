-- The combination `and_not` at one index, where either mask may be absent.
use Rattle.std.specs.Prelude.{ℕ, Bool, true, false, not, ◌&&◌, List, [], ◌∷◌, ◌++◌, eqb, ltb, get_or, Option, Some, None}
use Rattle.masks.specs.Checks.{Check, check}
use Rattle.masks.specs.Mask.{mask_checks, mask_flags}
use Rattle.masks.specs.declared.bitmap.Bitmap.{Bitmap}

-- flag i of a mask; of an absent one the flag `absent`, at every i
unfoldable pub flag_or : Bool → Option Bitmap → List ℕ → ℕ → Bool
flag_or absent (Some m) bytes i = get_or (mask_flags m bytes) i false
flag_or absent None bytes i = absent

-- flag i of the first mask and not of the second; absent, the first is all ones, the second all zeros: with both absent it is true
unfoldable pub and_not_flag : Option Bitmap → List ℕ → Option Bitmap → List ℕ → ℕ → Bool
and_not_flag first a_bytes second b_bytes i = flag_or true first a_bytes i && not (flag_or false second b_bytes i)

-- ---- the checks

-- check 6: the index is below the mask's length
abbrev pub index_inside : ℕ → Bitmap → Check
index_inside i m = check 6 (ltb i m.length)

-- checks 1, 2, 3 and 6 of a mask and an index, if there is a mask
unfoldable pub index_checks : Option Bitmap → List ℕ → ℕ → List Check
index_checks (Some m) bytes i = mask_checks m bytes ++ (index_inside i m ∷ [])
index_checks None bytes i = []

-- check 5 of two masks, if both are there
unfoldable pub length_checks : Option Bitmap → Option Bitmap → List Check
length_checks (Some a) (Some b) = check 5 (eqb a.length b.length) ∷ []
length_checks (Some a) None = []
length_checks None second = []

-- the checks of both masks and the index; none if both masks are absent
unfoldable pub and_not_at_checks : Option Bitmap → List ℕ → Option Bitmap → List ℕ → ℕ → List Check
and_not_at_checks first a_bytes second b_bytes i =
    index_checks first a_bytes i ++ (index_checks second b_bytes i ++ length_checks first second)
