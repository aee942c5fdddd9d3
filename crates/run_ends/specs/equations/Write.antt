-- The call of `Write` as one equation for its answer, by its checks, and one for what each of its outputs holds after it.
use Rattle.std.specs.Prelude.{ℕ, ℤ, List, length}
use Rattle.words.specs.Flags.{over}
use Rattle.masks.specs.Checks.{first_failed}
use Rattle.masks.specs.Frozen.{with_frozen}
use Rattle.masks.specs.Mask.{mask_flags, written_mask}
use Rattle.masks.specs.declared.bitmap.Bitmap.{Bitmap}
use Rattle.masks.specs.equations.Answer.{Answer, checked, kept}
use Rattle.run_ends.specs.Write.{run_count, run_flags, write_checks, written_ends}

-- by the number of places for ends, and the size of the output
unfoldable pub to_run_ends_of : Bitmap → List ℕ → ℕ → ℕ → Answer (Unit {0}) Bitmap
to_run_ends_of m bytes places size = checked (write_checks m bytes places size) tt (written_mask m (run_count m bytes))

-- by the size of the output
unfoldable pub to_run_ends_ends : Bitmap → List ℕ → ℕ → List ℤ → List ℤ
to_run_ends_ends m bytes size ends =
    kept (first_failed (write_checks m bytes (length ends) size)) (over ends (written_ends (mask_flags m bytes))) ends

-- by the number of places for ends
unfoldable pub to_run_ends_bytes : Bitmap → List ℕ → ℕ → List ℕ → List ℕ
to_run_ends_bytes m bytes places out =
    kept (first_failed (write_checks m bytes places (length out))) (with_frozen out (run_flags (mask_flags m bytes))) out
