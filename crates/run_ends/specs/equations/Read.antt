-- The call of `Read` as one equation for its answer, by its checks, and one for what lent bytes hold after it.
use Rattle.std.specs.Prelude.{ℕ, ℤ, List, length}
use Rattle.masks.specs.Checks.{first_failed}
use Rattle.masks.specs.Frozen.{with_frozen}
use Rattle.masks.specs.Mask.{mask_flags, written_mask}
use Rattle.masks.specs.declared.bitmap.Bitmap.{Bitmap}
use Rattle.masks.specs.equations.Answer.{Answer, checked, kept}
use Rattle.run_ends.specs.Read.{flags_read, read_checks}

-- by the size of the output
unfoldable pub from_run_ends_of : List ℤ → Bitmap → List ℕ → ℕ → ℕ → Answer (Unit {0}) Bitmap
from_run_ends_of ends values bytes n size = checked (read_checks ends values bytes n size) tt (written_mask values n)

unfoldable pub from_run_ends_bytes : List ℤ → Bitmap → List ℕ → ℕ → List ℕ → List ℕ
from_run_ends_bytes ends values bytes n out =
    kept (first_failed (read_checks ends values bytes n (length out)))
    (with_frozen out (flags_read ends (mask_flags values bytes) n)) out
