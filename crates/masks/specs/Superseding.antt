-- Which of two masks of one operator supersedes the other, and the part of the bytes lent that holds it.
use Rattle.std.specs.Prelude.{ℕ, ◌+◌, ◌-◌, ◌/◌, ◌%◌, Bool, true, false, cond, not, ◌||◌, List, [], ◌∷◌, ◌++◌, eqb, ltb, take, drop}
use Rattle.words.specs.Counts.{same_flags}
use Rattle.masks.specs.Checks.{Check, check}
use Rattle.masks.specs.Mask.{cut_mask, mask_checks, mask_flags}
use Rattle.masks.specs.declared.bitmap.Bitmap.{Bitmap}
use Rattle.masks.specs.declared.superseding.Winner.{Winner}

-- ---- the checks

-- check 14: masks with equal serials have equal lists, compared as `eq` compares them
abbrev pub agree : Bitmap → List ℕ → Bitmap → List ℕ → Bool
agree a a_bytes b b_bytes = not (eqb a.serial b.serial) || same_flags (mask_flags a a_bytes) (mask_flags b b_bytes)

-- checks 1, 2 and 3 of both masks, the loser's too, and 14
unfoldable pub superseding_checks : Bitmap → List ℕ → Bitmap → List ℕ → List Check
superseding_checks a a_bytes b b_bytes =
    (mask_checks a a_bytes ++ mask_checks b b_bytes) ++ (check 14 (agree a a_bytes b b_bytes) ∷ [])

-- ---- the winner

-- the mask over its part of the bytes: the start is start mod 8, and all else is unchanged
abbrev pub fitted : Bitmap → Bitmap
fitted m = cut_mask m (m.start % 8) m.length m.unset

-- the part that holds a mask, of the second slice or of the first: from byte start div 8 to before byte ceil((start + length) / 8)
abbrev pub winner_of : Bool → Bitmap → Winner
winner_of second m = record { second = second; from = m.start / 8; to = (m.start + m.length + 7) / 8; mask = fitted m }

-- the larger serial wins; of two that are equal the first
abbrev pub winning : Bitmap → Bitmap → Winner
winning a b = cond (ltb a.serial b.serial) (winner_of true b) (winner_of false a)

-- ---- the answers

-- the bytes from number `from` to before number `to`; `part_bytes`: those of a part, in the slice that it names
abbrev pub within : ℕ → ℕ → List ℕ → List ℕ
within from to bytes = take (to - from) (drop from bytes)

abbrev pub part_bytes : Winner → List ℕ → List ℕ → List ℕ
part_bytes p a_bytes b_bytes = within p.from p.to (cond p.second b_bytes a_bytes)

-- where a part lies, by where the two slices do: in the slice that it names, from its first byte
abbrev pub part_place : Winner → ℕ × ℕ → ℕ × ℕ → ℕ × ℕ
part_place p a b = ((cond p.second b a).0, (cond p.second b a).1 + p.from)
