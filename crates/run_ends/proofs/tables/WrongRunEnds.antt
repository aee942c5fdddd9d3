-- Wrong answers that the contracts of the calls on run ends rule out, two for each row.
--
-- Rows as in `WrongAnswers` of words. An answer of a call that writes is paired with what the lent output then holds.
use Rattle.std.specs.Prelude.{ℕ, ℤ, pos, List, [], ◌∷◌, ◌++◌, replicate, Option, Some, None}
use Rattle.masks.specs.declared.bitmap.Bitmap.{Bitmap}
use Rattle.masks.specs.equations.Answer.{given, refused}
use Rattle.masks.specs.Mask.{mask_of, mask_under}
use Rattle.masks.proofs.tables.Examples.{first, lent}
use Rattle.masks.proofs.tables.WrongMasks.{Tried, Written}
use Rattle.run_ends.specs.Rules.{ends_of}
use Rattle.run_ends.specs.equations.Read.{from_run_ends_bytes, from_run_ends_of}
use Rattle.run_ends.specs.equations.Write.{to_run_ends_bytes, to_run_ends_ends, to_run_ends_of}

-- ---- inputs: under serial 5 the values 1,0,1, starting at flag 1 with a zero before them

abbrev pub values : Option ℕ → Bitmap
values u = mask_under 5 1 3 u

abbrev pub value_bytes : List ℕ
value_bytes = 0x0A ∷ []

abbrev pub read_in : List ℤ → Option ℕ → ℕ → List ℕ → Written
read_in ends u n out = (from_run_ends_of ends (values u) value_bytes n 9, from_run_ends_bytes ends (values u) value_bytes n out)

abbrev pub in_bytes : Bitmap → ℕ → Written
in_bytes m b = (given m, first b ++ lent 1)

-- a call that writes the flags 1,0,0,1,1,1, which start at flag 1 with a one before them, under serial 5: with the positions that places
-- which held 9 then hold, and with the bytes of its output
abbrev pub six : Option ℕ → Bitmap
six u = mask_under 5 1 6 u

abbrev pub ends_in : Option ℕ → ℕ → ℕ → Written
ends_in u places size = (
  to_run_ends_of (six u) (0x73 ∷ []) places size,
  ends_of (to_run_ends_ends (six u) (0x73 ∷ []) size (replicate places (pos 9))),
)

abbrev pub values_in : Option ℕ → ℕ → List ℕ → Written
values_in u places out = (to_run_ends_of (six u) (0x73 ∷ []) places 9, to_run_ends_bytes (six u) (0x73 ∷ []) places out)

pub record WrongRunEnds : Type 0 where
  -- `from_run_ends`: two ones, a zero and three ones
  pub read : Tried (read_in (pos 2 ∷ pos 3 ∷ pos 6 ∷ []) None 6 (lent 9))
      (in_bytes (mask_under 5 0 6 None) 0x3B)
      -- the first run whose end is at or above the position
      (in_bytes (mask_under 5 0 6 None) 0x37)
      -- the values' start ignored
      (in_bytes (mask_under 5 0 6 None) 0x04)
  -- `from_run_ends`: the record
  pub read-record : Tried (read_in (pos 2 ∷ pos 3 ∷ pos 6 ∷ []) (Some 1) 6 (lent 9))
      (in_bytes (mask_under 5 0 6 None) 0x3B)
      -- serial 0
      (in_bytes (mask_of 0 6 None) 0x3B)
      -- the values' count
      (in_bytes (mask_under 5 0 6 (Some 1)) 0x3B)
  -- `from_run_ends` with the last two ends past the length
  pub read-past : Tried (read_in (pos 2 ∷ pos 6 ∷ pos 9 ∷ []) None 4 (lent 9))
      (in_bytes (mask_under 5 0 4 None) 0x03)
      -- the last end taken for the length
      (in_bytes (mask_under 5 0 9 None) 0xC3)
      -- refused, since the last end is not the length
      (refused 13 tt, lent 9)
  -- `from_run_ends` of no flags
  pub read-none : Tried (read_in (pos 2 ∷ pos 6 ∷ pos 9 ∷ []) None 0 (lent 9))
      (given (mask_under 5 0 0 (Some 0)), lent 9)
      -- the count unknown
      (given (mask_under 5 0 0 None), lent 9)
      -- a word written
      (in_bytes (mask_under 5 0 0 (Some 0)) 0)
  -- `from_run_ends` with an end below the one before it
  pub read-refused : Tried (read_in (pos 4 ∷ pos 3 ∷ pos 6 ∷ []) None 6 (lent 9))
      (refused 13 tt, lent 9)
      -- a run of no flags, and accepted
      (in_bytes (mask_under 5 0 6 None) 0x3F)
      -- refused, and written
      (refused 13 tt, first 0x3F ++ lent 1)
  -- `to_run_ends`: a one, two zeros, three ones
  pub write-ends : Tried (ends_in None 4 8)
      (given (mask_under 5 0 3 None), 1 ∷ 3 ∷ 6 ∷ 9 ∷ [])
      -- where the runs begin
      (given (mask_under 5 0 3 None), 0 ∷ 1 ∷ 3 ∷ 9 ∷ [])
      -- the last end not at the length
      (given (mask_under 5 0 3 None), 1 ∷ 3 ∷ 5 ∷ 9 ∷ [])
  -- `to_run_ends` with places for more runs than there are
  pub write-fewest : Tried (ends_in None 6 8)
      (given (mask_under 5 0 3 None), 1 ∷ 3 ∷ 6 ∷ 9 ∷ 9 ∷ 9 ∷ [])
      -- a run for each flag
      (given (mask_under 5 0 6 None), 1 ∷ 2 ∷ 3 ∷ 4 ∷ 5 ∷ 6 ∷ [])
      -- all later places given the last end
      (given (mask_under 5 0 3 None), 1 ∷ 3 ∷ 6 ∷ 6 ∷ 6 ∷ 6 ∷ [])
  -- `to_run_ends`: the values
  pub write-values : Tried (values_in (Some 2) 3 (lent 9))
      (in_bytes (mask_under 5 0 3 None) 0x05)
      -- the flags after each end
      (in_bytes (mask_under 5 0 3 None) 0x02)
      -- the zeros of the values counted
      (in_bytes (mask_under 5 0 3 (Some 1)) 0x05)
  -- `to_run_ends`: the record
  pub write-record : Tried (values_in (Some 2) 3 (lent 9))
      (in_bytes (mask_under 5 0 3 None) 0x05)
      -- serial 0
      (in_bytes (mask_of 0 3 None) 0x05)
      -- the length of the mask
      (in_bytes (mask_under 5 0 6 None) 0x05)
  -- `to_run_ends` with a place too few: neither output is written
  pub write-short : Tried (values_in None 2 (lent 9))
      (refused 9 tt, lent 9)
      -- the values written
      (refused 9 tt, first 0x05 ++ lent 1)
      -- the runs cut to the places, and accepted
      (in_bytes (mask_under 5 0 2 None) 0x01)
  -- `to_run_ends` with a byte too few
  pub write-small : Tried (ends_in None 3 7)
      (refused 9 tt, 9 ∷ 9 ∷ 9 ∷ [])
      -- the ends written
      (refused 9 tt, 1 ∷ 3 ∷ 6 ∷ [])
      -- accepted, since the runs need no byte more than one
      (given (mask_under 5 0 3 None), 1 ∷ 3 ∷ 6 ∷ [])
