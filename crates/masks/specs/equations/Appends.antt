-- The calls of `Appends` as one equation each: their answers by their checks, and what lent bytes hold after them.
use Rattle.std.specs.Prelude.{[], ℕ, ◌*◌, Bool, List, ◌∷◌, length, take}
use Rattle.words.specs.Flags.{copies, window, word_flags}
use Rattle.words.specs.Loops.{stretch}
use Rattle.masks.specs.equations.Answer.{Answer, checked, decided, kept}
use Rattle.masks.specs.Builder.{filling, appended}
use Rattle.masks.specs.Checks.{Check, first_failed}
use Rattle.masks.specs.Mask.{mask_flags}
use Rattle.masks.specs.declared.bitmap.Bitmap.{Bitmap}
use Rattle.masks.specs.declared.builder.BitmapBuilder.{BitmapBuilder}
use Rattle.masks.specs.Appends.{grow_checks, word_checks, constant_checks, span_grow_checks, subslice_checks, gather_checks, gathered}
use Rattle.masks.specs.Appends.{repeated}

-- the calls, with their arguments except the builder and its buffer: `push` and `push_mut`, `extend_constant`,
-- `push_word_with_len_unchecked`, `extend_from_slice`, `extend_each_repeated_from_slice_unchecked`, `subslice_extend_from_bitmap`,
-- `gather_extend_from_slice`, `opt_gather_extend_from_slice`
pub data Append : Type 0 where
  push_flag : Bool → Append
  extend_constant : ℕ → Bool → Append
  push_word : ℕ → ℕ → Append
  extend_slice : List ℕ → ℕ → ℕ → Append
  extend_repeated : List ℕ → ℕ → ℕ → ℕ → Append
  extend_bitmap : Bitmap → List ℕ → ℕ → ℕ → Append
  extend_gather : List ℕ → ℕ → ℕ → List ℕ → Append
  extend_opt_gather : List ℕ → ℕ → ℕ → List ℕ → Append

abbrev pub append_checks : Append → BitmapBuilder → List ℕ → List Check
append_checks (push_flag x) b buf = grow_checks b 1 (length buf)
append_checks (extend_constant n x) b buf = constant_checks b (length buf) n
append_checks (push_word w n) b buf = word_checks b (length buf) w n
append_checks (extend_slice bytes start n) b buf = span_grow_checks b buf bytes start n n
append_checks (extend_repeated bytes start n k) b buf = span_grow_checks b buf bytes start n (n * k)
append_checks (extend_bitmap m bytes start n) b buf = subslice_checks b buf m bytes start n
append_checks (extend_gather bytes start n idxs) b buf = gather_checks b buf bytes start n idxs
append_checks (extend_opt_gather bytes start n idxs) b buf = span_grow_checks b buf bytes start n (length idxs)

abbrev pub append_flags : Append → List Bool
append_flags (push_flag x) = x ∷ []
append_flags (extend_constant n x) = copies n x
append_flags (push_word w n) = take n (word_flags w)
append_flags (extend_slice bytes start n) = stretch bytes start n
append_flags (extend_repeated bytes start n k) = repeated k (stretch bytes start n)
append_flags (extend_bitmap m bytes start n) = window (mask_flags m bytes) start n
append_flags (extend_gather bytes start n idxs) = gathered (stretch bytes start n) idxs
append_flags (extend_opt_gather bytes start n idxs) = gathered (stretch bytes start n) idxs

abbrev pub append_answer : Append → BitmapBuilder → List ℕ → Answer BitmapBuilder BitmapBuilder
append_answer a b buf = checked (append_checks a b buf) b (appended (filling b buf) (append_flags a)).builder

abbrev pub append_bytes : Append → BitmapBuilder → List ℕ → List ℕ
append_bytes a b buf = kept (first_failed (append_checks a b buf)) (appended (filling b buf) (append_flags a)).bytes buf

-- the answer of a call that changes the caller's own record, by 0 or the number of a check, and the record that it leaves
abbrev pub change_answer : ℕ → BitmapBuilder → Answer BitmapBuilder BitmapBuilder
change_answer n b = decided n b b
