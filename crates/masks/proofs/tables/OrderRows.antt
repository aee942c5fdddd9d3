-- Which number a call refuses with if two checks fail: a table with a row for each two numbers whose checks can.
--
-- A row has two numbers in their order, and the number of a call at an input at which the checks of both fail. Each call goes through the
-- definition that its contract cites. So an order in which two of these numbers are exchanged fails a row. No call makes the checks of any
-- other two numbers (`may_give` of `Refusals`), except 6 and 7 of `slice`: if its 7 fails, 3 or an earlier one fails too (`never_seven`).
-- So these rows fix the order as far as it shows.
use Rattle.std.specs.Prelude.{ℕ, ◌≡◌, true, false, List, [], ◌∷◌, map, Some, None}
use Rattle.masks.specs.equations.Aligned.{aligned_of}
use Rattle.masks.specs.equations.Appends.{push_word, extend_constant, extend_slice, extend_bitmap, extend_gather}
use Rattle.masks.specs.equations.Bitmask.{window_at}
use Rattle.masks.specs.equations.Bitmask.{split_at}
use Rattle.masks.specs.Builder.{builder_of}
use Rattle.masks.specs.Combine.{And}
use Rattle.masks.specs.equations.Compare.{edges_of, common_of}
use Rattle.masks.specs.equations.Freeze.{freeze_of}
use Rattle.masks.specs.Mask.{mask_of}
use Rattle.masks.specs.equations.Mask.{new_zeroed_of, unset_bits_of, slice_of}
use Rattle.masks.specs.equations.Superseding.{superseding_of}
use Rattle.masks.specs.TrueIdx.{true_at}
use Rattle.masks.specs.equations.TrueIdx.{new_true, next_true}
use Rattle.masks.specs.equations.Utils.{span_count}
use Rattle.masks.proofs.tables.Witnesses.{number_of, byte, whole, shorter, buffer, too_long, to_impossible, to_no_bytes}
use Rattle.masks.proofs.tables.Witnesses.{pair_number, not_number, select_number, select_constant_number, at_number}
use Rattle.masks.specs.declared.bitmap.Bitmap.{Bitmap}

-- ---- a row

pub record Both : Type 0 where
  pub first : ℕ
  pub second : ℕ
  pub computed : ℕ

abbrev pub both : ℕ → ℕ → ℕ → Both
both first second computed = record { first = first; second = second; computed = computed }

-- a mask past the byte, and one of the byte, which has four zeros, with a false count of 7: a slice of it cuts off too few
abbrev pub past : Bitmap
past = mask_of 2 7 None

abbrev pub miscounted : Bitmap
miscounted = mask_of 0 8 (Some 7)

-- ---- the table

unfoldable pub order_rows : List Both
order_rows =
    both 1 2 (number_of (window_at byte too_long 1 0))
    ∷ both 1 3 (number_of (unset_bits_of (mask_of too_long 1 (Some 0)) byte))
    ∷ both 1 4 (to_impossible (extend_constant too_long true))
    ∷ both 1 5 (number_of (new_true too_long (Some whole) byte))
    ∷ both 1 6 (number_of (next_true (true_at 0 too_long 4194306 false) []))
    ∷ both 1 7 (number_of (slice_of (mask_of 4194304 8 (Some 3)) byte 4 4))
    ∷ both 1 8 (number_of (aligned_of byte too_long 1 8))
    ∷ both 1 9 (number_of (new_zeroed_of too_long buffer))
    ∷ both 1 14 (number_of (superseding_of whole byte (mask_of too_long 7 None) byte))
    ∷ both 2 3 (number_of (edges_of (mask_of 2 7 (Some 8)) byte))
    ∷ both 2 4 (to_impossible (extend_slice byte 2 7))
    ∷ both 2 5 (pair_number And past buffer)
    ∷ both 2 6 (number_of (split_at byte 2 7 8))
    ∷ both 2 7 (number_of (slice_of (mask_of 2 7 (Some 6)) byte 4 3))
    ∷ both 2 8 (number_of (span_count byte 2 7 8 0))
    ∷ both 2 9 (not_number past [])
    ∷ both 2 14 (number_of (superseding_of whole byte past byte))
    ∷ both 3 4 (to_impossible (extend_bitmap miscounted byte 0 1))
    ∷ both 3 5 (number_of (common_of whole byte (mask_of 0 7 (Some 7)) byte))
    ∷ both 3 6 (at_number None (Some miscounted) 8)
    ∷ both 3 7 (number_of (slice_of miscounted byte 4 4))
    ∷ both 3 9 (select_constant_number miscounted [])
    ∷ both 3 14 (number_of (superseding_of miscounted byte shorter byte))
    ∷ both 4 6 (to_impossible (extend_gather byte 0 8 (8 ∷ [])))
    ∷ both 4 9 (number_of (freeze_of (builder_of 1 2 0) []))
    ∷ both 5 6 (at_number (Some whole) (Some shorter) 8)
    ∷ both 5 9 (select_number shorter [])
    ∷ both 6 9 (to_no_bytes (push_word 2 1))
    ∷ []

-- the statement: in every row the call refuses with the first of the two numbers
abbrev pub OrderHolds : Type 0
OrderHolds = map (λ (r : Both). r.computed) order_rows ≡ map (λ (r : Both). r.first) order_rows
