-- What superseding means, in the words of the reference.
use Rattle.std.specs.Prelude.{ℕ, ◌+◌, ◌-◌, ◌/◌, ◌%◌, ◌≤◌, ◌<◌, ◌≡◌, Bool, true, false, cond, List, length}
use Rattle.masks.specs.equations.Answer.{given, refused}
use Rattle.masks.specs.Checks.{first_failed}
use Rattle.masks.specs.equations.Compare.{eq_of}
use Rattle.masks.specs.Mask.{mask_checks, mask_flags, mask_under}
use Rattle.masks.specs.Superseding.{fitted, part_bytes, winner_of, part_place, within}
use Rattle.masks.specs.equations.Superseding.{superseding_of}
use Rattle.masks.specs.declared.bitmap.Bitmap.{Bitmap}
use Rattle.masks.specs.declared.superseding.Winner.{Winner}

-- a mask whose checks 1, 2 and 3 pass
abbrev pub Accepted : Bitmap → List ℕ → Type 0
Accepted m bytes = first_failed (mask_checks m bytes) ≡ 0

-- a mask under another serial
abbrev pub under : ℕ → Bitmap → Bitmap
under serial m = mask_under serial m.start m.length m.unset

-- ---- which of two masks wins

pub record Supersedes (a : Bitmap) (a_bytes : List ℕ) (b : Bitmap) (b_bytes : List ℕ) : Type 0 where
  -- the larger serial wins, whatever the lists are
  pub first_larger : Accepted a a_bytes → Accepted b b_bytes → b.serial < a.serial
      → superseding_of a a_bytes b b_bytes ≡ given (winner_of false a)
  pub second_larger : Accepted a a_bytes → Accepted b b_bytes → a.serial < b.serial
      → superseding_of a a_bytes b b_bytes ≡ given (winner_of true b)
  -- if serials and lists are equal, the first wins
  pub equal : Accepted a a_bytes → Accepted b b_bytes → a.serial ≡ b.serial → mask_flags a a_bytes ≡ mask_flags b b_bytes
      → superseding_of a a_bytes b b_bytes ≡ given (winner_of false a)
  -- if serials are equal and lists differ, the call refuses with 14
  pub different : Accepted a a_bytes → Accepted b b_bytes → a.serial ≡ b.serial → (mask_flags a a_bytes ≡ mask_flags b b_bytes → ⊥)
      → superseding_of a a_bytes b b_bytes ≡ refused 14 tt
  -- and it refuses with 14 only then
  pub fourteen : superseding_of a a_bytes b b_bytes ≡ refused 14 tt
      → (Accepted a a_bytes × Accepted b b_bytes) × ((a.serial ≡ b.serial) × (mask_flags a a_bytes ≡ mask_flags b b_bytes → ⊥))
  -- `eq`, by which lists are compared, does not read serials
  pub eq_unserialled : (s t : ℕ) → eq_of (under s a) a_bytes (under t b) b_bytes ≡ eq_of a a_bytes b b_bytes

-- ---- the winner's record over its part

pub record Fits (m : Bitmap) (bytes part : List ℕ) : Type 0 where
  -- the part is as long as the formula says
  pub size : length part ≡ (m.start + m.length + 7) / 8 - m.start / 8
  -- the record has the winner's flags there,
  pub flags : mask_flags (fitted m) part ≡ mask_flags m bytes
  -- its start is the winner's mod 8, and its length, count and serial are the winner's
  pub start : (fitted m).start ≡ m.start % 8
  pub long : (fitted m).length ≡ m.length
  pub count : (fitted m).unset ≡ m.unset
  pub serial : (fitted m).serial ≡ m.serial
  -- it passes a mask's checks
  pub accepted : Accepted (fitted m) part

-- the part that the call returns: it is the part of the mask with the larger serial, of the first if they are equal; its record has that
-- mask's flags, over the bytes that the call returns, and its count and serial, and passes a mask's checks
pub record Winning (a : Bitmap) (a_bytes : List ℕ) (b : Bitmap) (b_bytes : List ℕ) (p : Winner) : Type 0 where
  pub second : p.second ≡ true → a.serial < b.serial
  pub first : p.second ≡ false → b.serial ≤ a.serial
  pub flags : mask_flags p.mask (part_bytes p a_bytes b_bytes) ≡ cond p.second (mask_flags b b_bytes) (mask_flags a a_bytes)
  pub count : p.mask.unset ≡ cond p.second b.unset a.unset
  pub serial : p.mask.serial ≡ cond p.second b.serial a.serial
  pub accepted : Accepted p.mask (part_bytes p a_bytes b_bytes)
  -- its bytes lie in the slice of that mask, and begin with the byte of the mask's first flag
  pub place : (first_at second_at : ℕ × ℕ) → part_place p first_at second_at
      ≡ cond p.second (second_at.0, second_at.1 + b.start / 8) (first_at.0, first_at.1 + a.start / 8)

pub record SupersedingPlainly : Type 0 where
  pub supersedes : (a : Bitmap) (a_bytes : List ℕ) (b : Bitmap) (b_bytes : List ℕ) → Supersedes a a_bytes b b_bytes
  pub won : (a : Bitmap) (a_bytes : List ℕ) (b : Bitmap) (b_bytes : List ℕ) (p : Winner) → superseding_of a a_bytes b b_bytes ≡ given p
      → Winning a a_bytes b b_bytes p
  -- for every mask that is accepted, a winner or not
  pub fits : (second : Bool) (m : Bitmap) (bytes : List ℕ) → Accepted m bytes
      → let p = winner_of second m in (p.mask ≡ fitted m) × Fits m bytes (within p.from p.to bytes)
