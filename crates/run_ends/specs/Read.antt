-- Run ends read as a list of flags, and the checks of the call.
use Rattle.std.specs.Prelude.{ℕ, zero, suc, ℤ, Bool, false, Option, Some, None, List, [], ◌∷◌, ◌++◌, get_or, nat_lt, position}
use Rattle.masks.specs.Checks.{Check, check, output_checks, within_limit}
use Rattle.masks.specs.Mask.{mask_checks}
use Rattle.masks.specs.declared.bitmap.Bitmap.{Bitmap}
use Rattle.run_ends.specs.Rules.{end_of, runs_hold}

abbrev pub is_above : ℕ → ℤ → Bool
is_above p e = nat_lt p (end_of e)

-- the number of the first run whose end is above p
abbrev pub run_at : List ℤ → ℕ → Option ℕ
run_at ends p = position (is_above p) ends

abbrev pub flag_of_run : List Bool → Option ℕ → Bool
flag_of_run values (Some k) = get_or values k false
flag_of_run values None = false

-- the flag of position p: the value of the first run whose end is above p
abbrev pub flag_at : List ℤ → List Bool → ℕ → Bool
flag_at ends values p = flag_of_run values (run_at ends p)

-- the flags of positions p, p + 1, and so on: n of them
unfoldable pub flags_from : List ℤ → List Bool → ℕ → ℕ → List Bool
flags_from ends values p zero = []
flags_from ends values p (suc n) = flag_at ends values p ∷ flags_from ends values (suc p) n

-- the first n flags
abbrev pub flags_read : List ℤ → List Bool → ℕ → List Bool
flags_read ends values n = flags_from ends values 0 n

-- checks 1 to 3 of the values, 1 of the length stated, 13, and 9 of n flags in an output of `size` bytes
unfoldable pub read_checks : List ℤ → Bitmap → List ℕ → ℕ → ℕ → List Check
read_checks ends values bytes n size =
    mask_checks values bytes ++ (within_limit n ∷ check 13 (runs_hold n ends values.length) ∷ output_checks n size)
