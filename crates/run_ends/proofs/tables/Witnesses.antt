-- For each call on run ends an input for each number with which it may refuse, over one byte.
use Rattle.std.specs.Prelude.{ℕ, ◌≡◌, ℤ, pos, List, [], ◌∷◌, ◌++◌, length, drop, map, replicate, None, Some}
use Rattle.masks.specs.Mask.{mask_of}
use Rattle.masks.specs.declared.bitmap.Bitmap.{Bitmap}
use Rattle.masks.proofs.tables.Witnesses.{at_short_masks, but_seven, byte, number_of, too_long, whole}
use Rattle.run_ends.specs.equations.Read.{from_run_ends_of}
use Rattle.run_ends.specs.equations.Write.{to_run_ends_of}
use Rattle.run_ends.proofs.statements.Refusals.{Family, may_give, reading, writing}

-- ---- the numbers of the calls for masks over the byte

-- `from_run_ends`, into an output of `size` bytes
abbrev pub read_number : List ℤ → Bitmap → ℕ → ℕ → ℕ
read_number ends m n size = number_of (from_run_ends_of ends m byte n size)

-- `to_run_ends`, into so many places for ends and an output of `size` bytes
abbrev pub write_number : Bitmap → ℕ → ℕ → ℕ
write_number m places size = number_of (to_run_ends_of m byte places size)

-- eight runs of one flag, and with the last one ending before it begins
abbrev pub eight : List ℤ
eight = map pos (1 ∷ 2 ∷ 3 ∷ 4 ∷ 5 ∷ 6 ∷ 7 ∷ 8 ∷ [])

abbrev pub broken : List ℤ
broken = map pos (1 ∷ 2 ∷ 3 ∷ 4 ∷ 5 ∷ 6 ∷ 9 ∷ 8 ∷ [])

-- ---- the table: for each call a list, the number of its definition at one input for each number of its family

unfoldable pub witnesses : Family → List (List ℕ)
witnesses reading =
    -- `from_run_ends`: values above the limit, values past the byte, ends that fall, a false count, an output of seven bytes
    (read_number eight (mask_of 0 too_long None) 8 8
    ∷ read_number eight (mask_of 2 7 None) 8 8
    ∷ read_number broken whole 8 8
    ∷ read_number eight (mask_of 0 8 (Some 3)) 8 8
    ∷ read_number eight whole 8 7
    ∷ [])
    ∷ []
witnesses writing =
    -- `to_run_ends`: a mask refused, six runs and five places; and with seven bytes
    (at_short_masks (λ m. write_number m 8 8) ++ (write_number whole 5 8 ∷ []))
    ∷ (at_short_masks (λ m. write_number m 8 8) ++ (write_number whole 8 7 ∷ []))
    ∷ []

-- the statement: each of a family's calls has an input for each of the family's numbers
abbrev pub Witnessed : Type 0
Witnessed = (f : Family) → witnesses f ≡ but_seven (may_give f) ∷ replicate (length (drop 1 (witnesses f))) (but_seven (may_give f))
