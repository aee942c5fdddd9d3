-- The calls of `Freeze` as one equation each: their answers by their checks, and what lent bytes hold after them.
use Rattle.std.specs.Prelude.{ℕ, List, length, Option}
use Rattle.masks.specs.equations.Answer.{Answer, checked, kept}
use Rattle.masks.specs.Checks.{first_failed}
use Rattle.masks.specs.declared.bitmap.Bitmap.{Bitmap}
use Rattle.masks.specs.declared.builder.BitmapBuilder.{BitmapBuilder}
use Rattle.masks.specs.Freeze.{frozen_mask, validity_of, freeze_checks, frozen_over}

-- what `freeze` and `into_opt_validity` answer, and what the buffer then holds
abbrev pub freeze_of : BitmapBuilder → List ℕ → Answer BitmapBuilder Bitmap
freeze_of b bytes = checked (freeze_checks b (length bytes)) b (frozen_mask b)

abbrev pub into_opt_validity_of : BitmapBuilder → List ℕ → Answer BitmapBuilder (Option Bitmap)
into_opt_validity_of b bytes = checked (freeze_checks b (length bytes)) b (validity_of b)

abbrev pub freeze_bytes : BitmapBuilder → List ℕ → List ℕ
freeze_bytes b bytes = kept (first_failed (freeze_checks b (length bytes))) (frozen_over b bytes) bytes
