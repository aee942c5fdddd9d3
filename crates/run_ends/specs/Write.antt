-- A list of flags as the fewest runs, and the checks of the call that writes them.
use Rattle.std.specs.Prelude.{ℕ, suc, ℤ, pos, Bool, if◌then◌else◌, List, [], ◌∷◌, ◌++◌, length, map, leb}
use Rattle.std.specs.Bool.{beq}
use Rattle.masks.specs.Checks.{Check, check, output_checks}
use Rattle.masks.specs.Mask.{mask_checks, mask_flags}
use Rattle.masks.specs.declared.bitmap.Bitmap.{Bitmap}

-- the ends of the runs of a list whose first flag is at position p: a run ends where the next flag differs, and at the end of the list
unfoldable pub ends_from : ℕ → List Bool → List ℕ
ends_from p [] = []
ends_from p (x ∷ []) = suc p ∷ []
ends_from p (x ∷ y ∷ l) = if beq x y then ends_from (suc p) (y ∷ l) else suc p ∷ ends_from (suc p) (y ∷ l)

abbrev pub written_ends : List Bool → List ℤ
written_ends l = map pos (ends_from 0 l)

-- the flag of each of these runs
unfoldable pub run_flags : List Bool → List Bool
run_flags [] = []
run_flags (x ∷ []) = x ∷ []
run_flags (x ∷ y ∷ l) = if beq x y then run_flags (y ∷ l) else x ∷ run_flags (y ∷ l)

-- how many runs a mask has
abbrev pub run_count : Bitmap → List ℕ → ℕ
run_count m bytes = length (run_flags (mask_flags m bytes))

-- checks 1 to 3, and 9: there are `places` places for the ends, and an output of `size` bytes for their values
unfoldable pub write_checks : Bitmap → List ℕ → ℕ → ℕ → List Check
write_checks m bytes places size =
    mask_checks m bytes ++ (check 9 (leb (run_count m bytes) places) ∷ output_checks (run_count m bytes) size)
