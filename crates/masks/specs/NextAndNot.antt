-- The next flag that is set in one mask and not in another, starting at a place and going round once, and how many windows of 32 flags are
-- read.
use Rattle.std.specs.Prelude.{ℕ, ◌+◌, ◌-◌, ◌/◌, Bool, List, [], ◌∷◌, ◌++◌, eqb, leb, Option, Some, None}
use Rattle.masks.specs.Checks.{Check, check}
use Rattle.masks.specs.Combine.{AndNot, pair_flags}
use Rattle.masks.specs.Mask.{mask_checks, mask_flags}
use Rattle.masks.specs.Search.{nth_from}
use Rattle.masks.specs.declared.bitmap.Bitmap.{Bitmap}
use Rattle.masks.specs.declared.next_and_not.NextFlag.{NextFlag}

-- the flags that are set in the first mask and not in the second: those of `and_not`; without a second mask the first's
unfoldable pub free_flags : Bitmap → List ℕ → Option Bitmap → List ℕ → List Bool
free_flags a a_bytes (Some b) b_bytes = pair_flags AndNot a a_bytes b b_bytes
free_flags a a_bytes None b_bytes = mask_flags a a_bytes

-- ---- the position and the windows

-- how many windows of 32 flags n flags take
abbrev pub windows_of : ℕ → ℕ
windows_of n = (n + 31) / 32

-- Windows begin at `from` and at every 32nd flag after it below the length n; if none of them has a set flag, at 0 and at every 32nd flag
-- below `from`. The arguments are n, `from`, the first set position at or after `from`, if there is one, and the first of all. The window
-- that holds the position is the last one read.
unfoldable pub going_round : ℕ → ℕ → Option ℕ → Option ℕ → NextFlag
going_round n from (Some p) first = record { position = Some p; windows = (p - from) / 32 + 1 }
going_round n from None (Some p) = record { position = Some p; windows = windows_of (n - from) + (p / 32 + 1) }
going_round n from None None = record { position = None; windows = windows_of (n - from) + windows_of from }

-- the first set flag of n flags at or after `from`, else the first of all, and the number of windows read
unfoldable pub next_set : ℕ → List Bool → ℕ → NextFlag
next_set n l from = going_round n from (nth_from l 0 from) (nth_from l 0 0)

-- ---- the call

-- checks 1, 2 and 3 of a second mask, if there is one, and 5: its length is n
unfoldable pub other_checks : ℕ → Option Bitmap → List ℕ → List Check
other_checks n (Some b) b_bytes = mask_checks b b_bytes ++ (check 5 (eqb n b.length) ∷ [])
other_checks n None b_bytes = []

-- the checks of both masks, and 6: `from` is at most the length
unfoldable pub next_checks : Bitmap → List ℕ → Option Bitmap → List ℕ → ℕ → List Check
next_checks a a_bytes second b_bytes from =
    mask_checks a a_bytes ++ (other_checks a.length second b_bytes ++ (check 6 (leb from a.length) ∷ []))
