-- The fault in each mask of a call in turn: a start and a length above the limit, a mask past its byte, a false count. The number is that
-- of the fault, wherever the mask stands, also where the answer would not depend on its flags: the mask beside one that is constant, the
-- one that a selection does not take, the loser of two, the second mask where the first decides.
--
-- A row has the numbers of a call with each fault, through the definition that its contract cites, and those of the reference's words.
-- `proofs/computed/FaultRows.antt` proves that the columns are equal.
use Rattle.std.specs.Prelude.{ℕ, true, false, List, [], ◌∷◌, replicate, Some, None}
use Rattle.words.specs.declared.ops.Op.{Op}
use Rattle.masks.specs.equations.Appends.{extend_bitmap, append_answer}
use Rattle.masks.specs.equations.AtIndex.{and_not_at_of}
use Rattle.masks.specs.Builder.{new_builder}
use Rattle.masks.specs.Combine.{And, AndNot, Or, OrNot, Xor}
use Rattle.masks.specs.equations.Combine.{pair_of, pair_bytes, not_of, select_of, select_bytes, select_constant_of}
use Rattle.masks.specs.equations.Compare.{eq_of, edges_of, common_of}
use Rattle.masks.specs.Mask.{mask_of, mask_under}
use Rattle.masks.specs.equations.Mask.{unset_bits_of}
use Rattle.masks.specs.equations.NextAndNot.{next_and_not_of}
use Rattle.masks.specs.equations.SliceIterator.{new_slices}
use Rattle.masks.specs.equations.Superseding.{record_of, superseding_of}
use Rattle.masks.specs.equations.TrueIdx.{new_true}
use Rattle.masks.specs.declared.bitmap.Bitmap.{Bitmap}
use Rattle.masks.proofs.tables.EdgeRows.{SplitRow}
use Rattle.masks.proofs.tables.LargeRows.{Hold}
use Rattle.masks.proofs.tables.StartRows.{numbers}
use Rattle.masks.proofs.tables.Witnesses.{number_of, byte, buffer, too_long}

-- ---- the faults, over the byte 0x2D, which has four zeros

-- the numbers of a call with each fault in one of its masks, the other masks having eight flags
abbrev pub at_faults : (Bitmap → ℕ) → List ℕ
at_faults f =
    f (mask_of too_long 8 None) ∷ f (mask_of 0 too_long None) ∷ f (mask_of 1 8 None) ∷ f (mask_of 0 8 (Some 3))
    ∷ f (mask_of 0 8 (Some 5)) ∷ []

abbrev pub faulty : (Bitmap → ℕ) → SplitRow
faulty f = numbers (at_faults f) (1 ∷ 1 ∷ 2 ∷ 3 ∷ 3 ∷ [])

-- the same under a serial
abbrev pub faulty_under : ℕ → (Bitmap → ℕ) → SplitRow
faulty_under serial f = faulty (λ m. f (mask_under serial m.start m.length m.unset))

-- ---- the other masks: eight zeros and eight ones, with their counts, the zeros also under a serial

abbrev pub clear : Bitmap
clear = mask_of 0 8 (Some 8)

abbrev pub full : Bitmap
full = mask_of 0 8 (Some 0)

abbrev pub zeros : List ℕ
zeros = 0 ∷ []

abbrev pub ones : List ℕ
ones = 0xFF ∷ []

abbrev pub clear_under : ℕ → Bitmap
clear_under serial = mask_under serial 0 8 (Some 8)

-- ---- combinations

-- a combination with the fault in the first mask, and in the second, beside a mask
abbrev pub beside_first : Op → Bitmap → List ℕ → SplitRow
beside_first op m bytes = faulty (λ a. number_of (pair_of op a byte m bytes buffer))

abbrev pub beside-second : Op → Bitmap → List ℕ → SplitRow
beside-second op m bytes = faulty (λ b. number_of (pair_of op m bytes b byte buffer))

unfoldable pub pair_rows : List SplitRow
pair_rows =
    -- beside a mask whose count alone decides the result, in either order
    beside_first And clear zeros ∷ beside-second And clear zeros
    ∷ beside_first Or full ones ∷ beside-second Or full ones
    ∷ beside_first Xor full ones ∷ beside-second Xor full ones
    ∷ beside_first AndNot full ones ∷ beside-second AndNot clear zeros
    ∷ beside_first OrNot clear zeros ∷ beside-second OrNot full ones
    -- and where both are read
    ∷ beside_first And full ones ∷ beside-second And full ones
    ∷ beside_first Or clear zeros ∷ beside-second Or clear zeros
    ∷ beside_first AndNot clear zeros ∷ beside-second AndNot full ones
    ∷ beside_first OrNot full ones ∷ beside-second OrNot clear zeros
    ∷ faulty (λ m. number_of (not_of m byte buffer))
    -- `select` in each of its three masks; ones take the second mask's flags, zeros the third's
    ∷ faulty (λ s. number_of (select_of s byte full ones full ones buffer))
    ∷ faulty (λ t. number_of (select_of full ones t byte clear zeros buffer))
    ∷ faulty (λ t. number_of (select_of clear zeros t byte clear zeros buffer))
    ∷ faulty (λ f. number_of (select_of full ones full ones f byte buffer))
    ∷ faulty (λ f. number_of (select_of clear zeros full ones f byte buffer))
    -- `select_constant` in each of its two
    ∷ faulty (λ s. number_of (select_constant_of s byte full ones true buffer))
    ∷ faulty (λ t. number_of (select_constant_of full ones t byte true buffer))
    ∷ faulty (λ t. number_of (select_constant_of clear zeros t byte false buffer))
    ∷ []

-- ---- lengths that differ: 5, in each place, also where the shorter mask is not read

abbrev pub short : Bitmap
short = mask_of 0 7 None

unfoldable pub length_rows : List SplitRow
length_rows =
    numbers
    (number_of (pair_of And clear zeros short byte buffer) ∷ number_of (pair_of Or short byte full ones buffer)
    ∷ number_of (pair_of Xor full ones short byte buffer) ∷ number_of (select_of short byte full ones full ones buffer)
    ∷ number_of (select_of clear zeros short byte full ones buffer) ∷ number_of (select_of full ones full ones short byte buffer)
    ∷ number_of (select_constant_of short byte full ones true buffer) ∷ number_of (select_constant_of clear zeros short byte true buffer)
    ∷ number_of (common_of clear zeros short byte) ∷ number_of (common_of short byte clear zeros)
    ∷ number_of (and_not_at_of (Some clear) zeros (Some short) byte 0) ∷ number_of (and_not_at_of (Some short) byte (Some full) ones 0)
    ∷ number_of (next_and_not_of clear zeros (Some short) byte 0) ∷ number_of (next_and_not_of short byte (Some full) ones 0)
    ∷ number_of (new_true 8 (Some short) byte) ∷ number_of (new_true 6 (Some short) byte) ∷ [])
    (replicate 16 5)
    -- a longer mask than the first is refused like a shorter one
    ∷ numbers
    (number_of (pair_of And short byte clear zeros buffer) ∷ number_of (select_of short byte short byte full ones buffer)
    ∷ number_of (select_of short byte full ones short byte buffer) ∷ number_of (select_constant_of short byte clear zeros true buffer)
    ∷ [])
    (5 ∷ 5 ∷ 5 ∷ 5 ∷ [])
    -- the bytes that are written stay as they are
    ∷ numbers (pair_bytes And clear zeros (mask_of 0 8 (Some 3)) byte buffer) buffer
    ∷ numbers (pair_bytes Or full ones (mask_of 1 8 None) byte buffer) buffer
    ∷ numbers (select_bytes full ones full ones (mask_of 0 8 (Some 3)) byte buffer) buffer
    ∷ []

-- ---- the other calls

unfoldable pub mask_rows : List SplitRow
mask_rows =
    faulty (λ m. number_of (unset_bits_of m byte))
    ∷ faulty (λ m. number_of (edges_of m byte))
    ∷ faulty (λ m. number_of (new_slices m byte))
    ∷ faulty (λ m. number_of (append_answer (extend_bitmap m byte 0 0) new_builder buffer))
    ∷ faulty (λ m. number_of (new_true 8 (Some m) byte))
    -- `eq` and `num_intersections_with`: each mask, also beside zeros, with which nothing is common
    ∷ faulty (λ a. number_of (eq_of a byte full ones))
    ∷ faulty (λ b. number_of (eq_of full ones b byte))
    ∷ faulty (λ b. number_of (eq_of short byte b byte))
    ∷ faulty (λ a. number_of (common_of a byte clear zeros))
    ∷ faulty (λ b. number_of (common_of clear zeros b byte))
    -- `and_not_at`: each mask alone, and both, also where the other decides: a first flag of 0, a second of 1
    ∷ faulty (λ a. number_of (and_not_at_of (Some a) byte None [] 0))
    ∷ faulty (λ b. number_of (and_not_at_of None [] (Some b) byte 0))
    ∷ faulty (λ a. number_of (and_not_at_of (Some a) byte (Some full) ones 0))
    ∷ faulty (λ a. number_of (and_not_at_of (Some a) byte (Some clear) zeros 0))
    ∷ faulty (λ b. number_of (and_not_at_of (Some clear) zeros (Some b) byte 0))
    ∷ faulty (λ b. number_of (and_not_at_of (Some full) ones (Some b) byte 0))
    -- `next_and_not`: the first alone, and both, also where nothing is to be found
    ∷ faulty (λ a. number_of (next_and_not_of a byte None [] 0))
    ∷ faulty (λ a. number_of (next_and_not_of a byte (Some full) ones 0))
    ∷ faulty (λ a. number_of (next_and_not_of a byte (Some clear) zeros 0))
    ∷ faulty (λ b. number_of (next_and_not_of clear zeros (Some b) byte 0))
    ∷ faulty (λ b. number_of (next_and_not_of full ones (Some b) byte 0))
    -- `superseding`: the winner's, and the loser's, in either order, and under equal serials
    ∷ faulty_under 7 (λ a. number_of (superseding_of a byte (clear_under 5) zeros))
    ∷ faulty_under 5 (λ a. number_of (superseding_of a byte (clear_under 7) zeros))
    ∷ faulty_under 7 (λ b. number_of (superseding_of (clear_under 5) zeros b byte))
    ∷ faulty_under 5 (λ b. number_of (superseding_of (clear_under 7) zeros b byte))
    ∷ faulty_under 5 (λ a. number_of (record_of (superseding_of a byte (clear_under 7) zeros)))
    ∷ faulty_under 5 (λ b. number_of (record_of (superseding_of (clear_under 7) zeros b byte)))
    ∷ numbers
    (number_of (superseding_of (mask_of 0 8 (Some 3)) byte (mask_of 0 8 None) byte)
    ∷ number_of (superseding_of (mask_of 0 8 None) byte (mask_of 0 8 (Some 3)) byte)
    ∷ number_of (superseding_of (mask_of 0 8 None) byte (mask_of 1 8 None) byte) ∷ [])
    (3 ∷ 3 ∷ 2 ∷ [])
    ∷ []

pub record FaultsHold : Type 0 where
  pub pairs : Hold pair_rows
  pub lengths : Hold length_rows
  pub masks : Hold mask_rows
