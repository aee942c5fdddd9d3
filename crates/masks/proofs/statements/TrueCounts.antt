-- When a zero count is true, and which masks the theorem on histories is about.
use Rattle.std.specs.Prelude.{ℕ, ◌+◌, ◌*◌, ◌≤◌, ◌≡◌, Bool, List, length, Option, Some, None}
use Rattle.masks.specs.Checks.{limit}
use Rattle.masks.specs.Mask.{mask_flags}
use Rattle.masks.specs.Utils.{zeros}
use Rattle.masks.specs.declared.bitmap.Bitmap.{Bitmap}

-- a count is true of a list: a known one is the number of its zeros; an unknown one always is
abbrev pub TrueCount : Option ℕ → List Bool → Type 0
TrueCount (Some z) l = z ≡ zeros l
TrueCount None l = Unit {0}

-- a mask whose count is unknown or true
abbrev pub Truthful : Bitmap → List ℕ → Type 0
Truthful m bytes = TrueCount m.unset (mask_flags m bytes)

-- a mask that passes checks 1 and 2 with its bytes, and whose count is unknown or true
pub record Sound (m : Bitmap) (bytes : List ℕ) : Type 0 where
  pub starts : m.start ≤ limit
  pub short : m.length ≤ limit
  pub inside : m.start + m.length ≤ 8 * length bytes
  pub counts : Truthful m bytes
