-- The calls of `Mask` as one equation each: their answers by their checks, and what lent bytes hold after them.
use Rattle.std.specs.Prelude.{ℕ, false, List, length}
use Rattle.std.specs.Prelude.{Some}
use Rattle.words.specs.Flags.{copies, over}
use Rattle.masks.specs.equations.Answer.{Answer, checked, kept}
use Rattle.masks.specs.Checks.{first_failed, span_checks}
use Rattle.masks.specs.Frozen.{frozen}
use Rattle.masks.specs.declared.bitmap.Bitmap.{Bitmap}
use Rattle.masks.specs.declared.bitmap.Recounted.{Recounted}
use Rattle.masks.specs.Mask.{mask_of, with_count, zero_count, uncounted, mask_checks, zeroed_checks, slice_checks, sliced_mask}

unfoldable pub try_new_of : List ℕ → ℕ → ℕ → Answer (Unit {0}) Bitmap
try_new_of bytes start n = checked (span_checks start n (length bytes)) tt (mask_of start n (uncounted n))

unfoldable pub new_zeroed_of : ℕ → List ℕ → Answer (Unit {0}) Bitmap
new_zeroed_of n out = checked (zeroed_checks n (length out)) tt (mask_of 0 n (Some n))

unfoldable pub new_zeroed_bytes : ℕ → List ℕ → List ℕ
new_zeroed_bytes n out = kept (first_failed (zeroed_checks n (length out))) (over out (frozen (copies n false))) out

unfoldable pub unset_bits_of : Bitmap → List ℕ → Answer Bitmap Recounted
unset_bits_of m bytes =
    checked (mask_checks m bytes) m
    (record { mask = with_count m (Some (zero_count m bytes)); zeros = zero_count m bytes })

unfoldable pub slice_of : Bitmap → List ℕ → ℕ → ℕ → Answer Bitmap Bitmap
slice_of m bytes offset n = checked (slice_checks m bytes offset n) m (sliced_mask m bytes offset n)
