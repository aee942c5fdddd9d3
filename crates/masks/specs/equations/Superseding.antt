-- The calls of `Superseding` as one equation each: the winner by the checks, its record, its part of the lent bytes and where this lies.
use Rattle.std.specs.Prelude.{ℕ, List}
use Rattle.masks.specs.equations.Answer.{Answer, given, refused, checked}
use Rattle.masks.specs.declared.bitmap.Bitmap.{Bitmap}
use Rattle.masks.specs.declared.superseding.Winner.{Winner}
use Rattle.masks.specs.Superseding.{superseding_checks, winning, within, part_bytes, part_place}

unfoldable pub superseding_of : Bitmap → List ℕ → Bitmap → List ℕ → Answer (Unit {0}) Winner
superseding_of a a_bytes b b_bytes = checked (superseding_checks a a_bytes b b_bytes) tt (winning a b)

-- only the record of the winner
abbrev pub record_of : Answer (Unit {0}) Winner → Answer (Unit {0}) Bitmap
record_of (given p) = given p.mask
record_of (refused k s) = refused k s

-- the bytes that `superseding_bytes` returns: after a refusal an empty part of the first slice
abbrev pub bytes_of : Answer (Unit {0}) Winner → List ℕ → List ℕ → List ℕ
bytes_of (given p) a_bytes b_bytes = part_bytes p a_bytes b_bytes
bytes_of (refused k s) a_bytes b_bytes = within 0 0 a_bytes

-- where these bytes lie, by where the two slices do: after a refusal where the first slice does
abbrev pub place_of : Answer (Unit {0}) Winner → ℕ × ℕ → ℕ × ℕ → ℕ × ℕ
place_of (given p) a b = part_place p a b
place_of (refused k s) a b = a
