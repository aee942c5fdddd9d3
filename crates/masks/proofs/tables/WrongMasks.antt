-- Wrong answers that the contracts of the mask's calls rule out, two for each call.
--
-- Rows as in `WrongAnswers` of words. An answer of a call that writes is paired with what the lent output then holds.
use Rattle.std.specs.Prelude.{ℕ, true, false, cond, List, [], ◌∷◌, ◌++◌, replicate, Option, Some, None}
pub use Rattle.words.proofs.tables.WrongAnswers.{Tried}
use Rattle.words.specs.declared.ops.Op.{Op}
use Rattle.masks.specs.declared.bitmap.Recounted.{Recounted}
use Rattle.masks.specs.equations.Answer.{Answer, given, refused}
use Rattle.masks.specs.equations.AtIndex.{and_not_at_of}
use Rattle.masks.specs.Checks.{earlier, first_failed, output_checks, span_checks}
use Rattle.masks.specs.Combine.{And, AndNot, Or, OrNot, Xor}
use Rattle.masks.specs.equations.Combine.{pair_of, pair_bytes, not_of, not_bytes, select_of, select_bytes}
use Rattle.masks.specs.equations.Combine.{select_constant_of, select_constant_bytes}
use Rattle.masks.specs.equations.Compare.{eq_of, edges_of, common_of}
use Rattle.masks.proofs.tables.Examples.{first, lent}
use Rattle.masks.specs.Mask.{mask_checks, mask_of, mask_under, empty_mask, written_mask}
use Rattle.masks.specs.equations.Mask.{try_new_of, new_zeroed_of, new_zeroed_bytes, unset_bits_of, slice_of}
use Rattle.masks.proofs.tables.WrongSpans.{two}
use Rattle.masks.specs.Refusal.{number}
use Rattle.masks.specs.declared.bitmap.Bitmap.{Bitmap}
use Rattle.masks.specs.declared.refusal.Refusal.TheVariants.{NotAGrid}

-- ---- inputs: masks of four flags, with ones after them

-- 1,1,0,0
abbrev pub left : Bitmap
left = mask_of 0 4 None

abbrev pub left_bytes : List ℕ
left_bytes = 0xF3 ∷ []

-- 1,0,1,0, starting at flag 2
abbrev pub right : Bitmap
right = mask_of 2 4 None

abbrev pub right_bytes : List ℕ
right_bytes = 0xD4 ∷ []

-- 1,1,1,1, as its count says
abbrev pub ones : Bitmap
ones = mask_of 0 4 (Some 0)

abbrev pub ones_bytes : List ℕ
ones_bytes = 0xFF ∷ []

-- ---- calls and answers

abbrev pub Written : Type 0
Written = Answer (Unit {0}) Bitmap × List ℕ

-- a combination of two masks, and one over eight lent bytes
abbrev pub paired_in : Op → Bitmap → List ℕ → Bitmap → List ℕ → List ℕ → Written
paired_in op a a_bytes b b_bytes out = (pair_of op a a_bytes b b_bytes out, pair_bytes op a a_bytes b b_bytes out)

abbrev pub paired : Op → Bitmap → List ℕ → Bitmap → List ℕ → Written
paired op a a_bytes b b_bytes = paired_in op a a_bytes b b_bytes (lent 8)

-- a mask of four flags with this count, and these bytes
abbrev pub four : Option ℕ → List ℕ → Written
four u out = (given (mask_of 0 4 u), out)

abbrev pub recounted : Option ℕ → ℕ → Recounted
recounted u z = record { mask = mask_of 3 9 u; zeros = z }

pub record WrongMasks : Type 0 where
  -- `Bitmap::new`
  pub new : Tried empty_mask
      (mask_of 0 0 (Some 0))
      -- the count unknown
      (mask_of 0 0 None)
      -- a flag counted
      (mask_of 0 1 (Some 0))
  -- `Bitmap::new_zeroed` of 3 flags in nine bytes
  pub new_zeroed : Tried {A = Written} (new_zeroed_of 3 (lent 9), new_zeroed_bytes 3 (lent 9))
      (given (mask_of 0 3 (Some 3)), first 0 ++ lent 1)
      -- no zeros counted
      (given (mask_of 0 3 (Some 0)), first 0 ++ lent 1)
      -- the byte after the last word cleared
      (given (mask_of 0 3 (Some 3)), first 0 ++ (0 ∷ []))
  -- `Bitmap::try_new` of 9 flags starting at flag 3
  pub try-new : Tried (try_new_of two 3 9)
      (given (mask_of 3 9 None))
      -- the start lost
      (given (mask_of 0 9 None))
      -- counted at once
      (given (mask_of 3 9 (Some 7)))
  -- `Bitmap::slice` to the last 4 of 8 flags, four of them known as zeros
  pub slice : Tried (slice_of (mask_of 0 8 (Some 4)) two 4 4)
      (given (mask_of 4 4 (Some 3)))
      -- the old count kept
      (given (mask_of 4 4 (Some 4)))
      -- the count dropped
      (given (mask_of 4 4 None))
  -- `Bitmap::slice` to the last 4 of 8 flags, four of them zeros, with a false count of 7
  pub slice-refused : Tried (slice_of (mask_of 0 8 (Some 7)) two 4 4)
      (refused 3 (mask_of 0 8 (Some 7)))
      -- refused with 7 at the recount, not with 3
      (refused 7 (mask_of 0 8 (Some 7)))
      -- refused, and the mask cut
      (refused 3 (mask_of 4 4 (Some 7)))
  -- `Bitmap::unset_bits` of 9 flags starting at flag 3, with a false count of 6
  pub unset-bits-refused : Tried (unset_bits_of (mask_of 3 9 (Some 6)) two)
      (refused 3 (mask_of 3 9 (Some 6)))
      -- the count believed
      (given (recounted (Some 6) 6))
      -- the count corrected
      (given (recounted (Some 7) 7))
  -- `Bitmap::unset_bits` of four ones, said to be zeros, and of four zeros, said to be ones
  pub unset-bits-all : Tried (unset_bits_of (mask_of 0 4 (Some 4)) ones_bytes)
      (refused 3 (mask_of 0 4 (Some 4)))
      -- a count equal to the length believed
      (given (record { mask = mask_of 0 4 (Some 4); zeros = 4 }))
      -- the mask returned with its count corrected
      (refused 3 (mask_of 0 4 (Some 0)))
  pub unset-bits-none : Tried (unset_bits_of (mask_of 0 4 (Some 0)) (0xF0 ∷ []))
      (refused 3 (mask_of 0 4 (Some 0)))
      -- a count of 0 believed
      (given (record { mask = mask_of 0 4 (Some 0); zeros = 0 }))
      -- the mask returned with its count unknown
      (refused 3 (mask_of 0 4 None))
  -- `Bitmap::unset_bits` of 9 flags starting at flag 3
  pub unset_bits : Tried (unset_bits_of (mask_of 3 9 None) two)
      (given (recounted (Some 7) 7))
      -- the count not stored in the mask
      (given (recounted None 7))
      -- ones counted
      (given (recounted (Some 2) 2))
  -- `and`
  pub and : Tried (paired And left left_bytes right right_bytes)
      (four None (first 0x01))
      -- flags past the end kept
      (four None (first 0x31))
      -- the right mask's start ignored
      (four None (first 0x00))
  -- `and` of 4 flags and of 3 with a false count of 3, with no byte to write to
  pub and-refused : Tried (paired_in And left left_bytes (mask_of 2 3 (Some 3)) right_bytes [])
      (refused 3 tt, [])
      -- the lengths compared first
      (refused 5 tt, [])
      -- the output measured first
      (refused 9 tt, [])
  -- `and` of 4 flags with a false count and of 4 outside their bytes
  pub and-outside : Tried (paired_in And (mask_of 0 4 (Some 1)) left_bytes (mask_of 5 4 None) right_bytes (lent 8))
      (refused 2 tt, lent 8)
      -- only the first mask's checks made
      (refused 3 tt, lent 8)
      -- the count believed
      (four None (first 0x00))
  -- `and` where the second mask's count is one too many
  pub and_stale : Tried (paired_in And (mask_of 0 4 (Some 2)) left_bytes (mask_of 2 4 (Some 3)) right_bytes (lent 8))
      (refused 3 tt, lent 8)
      -- only the first mask's count checked
      (four None (first 0x01))
      -- refused, and written
      (refused 3 tt, first 0x01)
  -- `and_not`
  pub and-not : Tried (paired AndNot left left_bytes right right_bytes)
      (four None (first 0x02))
      -- the left mask inverted
      (four None (first 0x04))
      -- none inverted
      (four None (first 0x01))
  -- `or` with a mask that is all ones by its count
  pub or : Tried (paired Or ones ones_bytes right right_bytes)
      (four None (first 0x0F))
      -- all zeros, by the count
      (four (Some 4) (first 0x00))
      -- the count of the mask of all ones returned
      (four (Some 0) (first 0x0F))
  -- `or_not`
  pub or-not : Tried (paired OrNot left left_bytes right right_bytes)
      (four None (first 0x0B))
      -- none inverted
      (four None (first 0x07))
      -- flags past the end kept
      (four None (first 0xFB))
  -- `xor` of two masks that are all ones by their counts
  pub xor : Tried (paired Xor ones ones_bytes ones ones_bytes)
      (four (Some 4) (first 0x00))
      -- the count unknown
      (four None (first 0x00))
      -- the count of one of the masks returned
      (four (Some 0) (first 0x00))
  -- `not` of a mask that begins at flag 2
  pub not : Tried {A = Written} (not_of right right_bytes (lent 8), not_bytes right right_bytes (lent 8))
      (four None (first 0x0A))
      -- zeros past the end inverted
      (four None (0xFA ∷ replicate 7 0xFF))
      -- the start kept
      (given (mask_of 2 4 None), first 0x0A)
  -- `select` by 1,1,0,0 from 1,0,1,0 and 1,1,1,1
  pub select : Tried {A = Written} (
    select_of left left_bytes right right_bytes ones ones_bytes (lent 8),
    select_bytes left left_bytes right right_bytes ones ones_bytes (lent 8),
  )
      (four None (first 0x0D))
      -- the two masks exchanged
      (four None (first 0x07))
      -- the selector's own flags
      (four None (first 0x03))
  -- `select_constant` by 1,1,0,0 from 1,0,1,0 and ones
  pub select_constant : Tried {A = Written} (
    select_constant_of left left_bytes right right_bytes true (lent 8),
    select_constant_bytes left left_bytes right right_bytes true (lent 8),
  )
      (four None (first 0x0D))
      -- the constant inverted
      (four None (first 0x01))
      -- the constant past the end
      (four None (0xFD ∷ replicate 7 0xFF))
  -- `and_not_at` of index 0
  pub and_not_at : Tried (and_not_at_of (Some left) left_bytes (Some right) right_bytes 0)
      (given false)
      -- the second mask's start ignored
      (given true)
      -- indices counted from 1
      (refused 6 tt)
  -- `and_not_at` of index 2 with no first mask
  pub and-not-at-second : Tried (and_not_at_of None [] (Some right) right_bytes 2)
      (given false)
      -- the second mask not inverted
      (given true)
      -- the bytes of the absent mask checked
      (refused 2 tt)
  -- `and_not_at` of index 9 with no mask
  pub and-not-at-none : Tried (and_not_at_of None [] None [] 9)
      (given true)
      -- an absent first mask taken for zeros
      (given false)
      -- the index checked though there is no mask
      (refused 6 tt)
  -- `and_not_at` of index 4
  pub and-not-at-refused : Tried (and_not_at_of (Some left) left_bytes (Some right) right_bytes 4)
      (refused 6 tt)
      -- the flags past the end read
      (given false)
      -- refused with 5, as if the lengths differed
      (refused 5 tt)
  -- `eq` of the first 4 flags and the first 3
  pub eq : Tried (eq_of left left_bytes (mask_of 0 3 None) left_bytes)
      (given false)
      -- the shorter length compared
      (given true)
      -- unequal lengths refused
      (refused 5 tt)
  -- `num_edges` of 1,0,1,1,0,1
  pub num_edges : Tried (edges_of (mask_of 0 6 None) two)
      (given 4)
      -- the flag past the end compared
      (given 5)
      -- runs counted
      (given 3)
  -- `num_intersections_with`
  pub num_intersections_with : Tried (common_of left left_bytes right right_bytes)
      (given 1)
      -- flags past the end counted
      (given 3)
      -- the right mask's start ignored
      (given 0)
  -- `written_mask` of three flags, written by a call from a mask that starts at flag 4 and has one zero, under serial 5
  pub written-mask : Tried (written_mask (mask_under 5 4 8 (Some 1)) 3)
      (mask_under 5 0 3 None)
      -- serial 0
      (mask_of 0 3 None)
      -- the count kept
      (mask_under 5 0 3 (Some 1))
  -- `written_mask` of no flags
  pub written-mask-of-none : Tried (written_mask (mask_under 5 4 8 None) 0)
      (mask_under 5 0 0 (Some 0))
      -- the count unknown
      (mask_under 5 0 0 None)
      -- the start kept
      (mask_under 5 4 0 (Some 0))
  -- `earlier` of the numbers 3 and 2
  pub earlier-number : Tried (earlier 3 2)
      2
      -- the first of the two numbers
      3
      -- none if both failed
      0
  -- `check` of a check that fails, by which number 12 refuses
  pub check : Tried (cond false 0 (number NotAGrid))
      12
      -- a check that fails taken for one that holds
      0
      -- the next number of the order
      6
  -- `check_span` of 7 flags starting at flag 2, in one byte
  pub check_span : Tried (first_failed (span_checks 2 7 1))
      2
      -- the start not added
      0
      -- refused with 1, as a length above the limit is
      1
  -- `check_mask` of 8 flags, four of them zeros, with a count of 3
  pub check_mask : Tried (first_failed (mask_checks (mask_of 0 8 (Some 3)) (0x2D ∷ [])))
      3
      -- the count not checked, or only compared with the length
      0
      -- refused with 2, the count taken for a length
      2
  -- `check_output` of 65 flags in 15 bytes
  pub check_output : Tried (first_failed (output_checks 65 15))
      9
      -- room required for whole bytes, not for whole words
      0
      -- refused with 2, the number of the check of bytes that are read
      2
