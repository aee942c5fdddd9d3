-- Wrong answers on serials that the contracts rule out: which mask wins, and which serial a record gets.
--
-- Rows as in `WrongAnswers` of words. An answer of a call that writes is paired with what the lent output then holds.
use Rattle.std.specs.Prelude.{ℕ, Bool, true, false, List, [], ◌∷◌, Some, None}
pub use Rattle.words.proofs.tables.WrongAnswers.{Tried}
use Rattle.masks.specs.equations.Answer.{given, refused}
use Rattle.masks.specs.equations.Appends.{push_flag}
use Rattle.masks.specs.Builder.{builder_of, builder_under}
use Rattle.masks.specs.Combine.{Or}
use Rattle.masks.specs.equations.Combine.{select_bytes, select_of}
use Rattle.masks.proofs.tables.Examples.{first, lent}
use Rattle.masks.specs.equations.Freeze.{freeze_of}
use Rattle.masks.specs.Mask.{mask_of, mask_under}
use Rattle.masks.specs.equations.Mask.{slice_of}
use Rattle.masks.specs.equations.Superseding.{bytes_of, record_of, superseding_of}
use Rattle.masks.proofs.tables.WrongBuilders.{appending, freezing}
use Rattle.masks.proofs.tables.WrongMasks.{Written, paired}
use Rattle.masks.proofs.tables.WrongSpans.{two}
use Rattle.masks.specs.declared.bitmap.Bitmap.{Bitmap}
use Rattle.masks.specs.declared.superseding.Winner.{Winner}

-- ---- inputs

-- the first byte's flags under serial 5
abbrev pub old : Bitmap
old = mask_under 5 0 8 None

-- four flags starting at flag 11, under serial 7
abbrev pub later : Bitmap
later = mask_under 7 11 4 (Some 1)

-- four ones by count, starting at flag 0 and at flag 4
abbrev pub byte : List ℕ
byte = 0xFF ∷ []

abbrev pub low : Bitmap
low = mask_under 5 0 4 (Some 0)

abbrev pub high : Bitmap
high = mask_under 5 4 4 (Some 0)

abbrev pub part : Bool → ℕ → ℕ → Bitmap → Winner
part second from to m = record { second = second; from = from; to = to; mask = m }

-- one of the flags 11 to 14 is a zero
abbrev pub other : List ℕ
other = 0x2D ∷ 0x70 ∷ []

-- the bytes that `superseding_bytes` returns for two masks over the same two bytes
abbrev pub bytes_given : Bitmap → Bitmap → List ℕ
bytes_given a b = bytes_of (superseding_of a two b two) two two

abbrev pub selected : ℕ → Written
selected serial = (given (mask_under serial 0 4 None), first 0x0F)

pub record WrongSerials : Type 0 where
  -- `superseding_part` of serials 5 and 7
  pub superseding_part : Tried (superseding_of old two later two)
      (given (part true 1 2 (mask_under 7 3 4 (Some 1))))
      -- the smaller serial wins
      (given (part false 0 1 old))
      -- the start not reduced to the bit in the part's first byte
      (given (part true 1 2 later))
  -- `superseding_part` of equal serials and equal lists
  pub superseding-part-equal : Tried (superseding_of low byte high byte)
      (given (part false 0 1 low))
      -- the second of two equal masks wins
      (given (part true 0 1 high))
      -- equal serials refused whatever the lists
      (refused 14 tt)
  -- `superseding_part` of equal serials and lists of unequal length
  pub superseding-part-refused : Tried (superseding_of low byte (mask_under 5 4 3 None) byte)
      (refused 14 tt)
      -- the first wins although the lists differ
      (given (part false 0 1 low))
      -- refused with 5, as by a combination
      (refused 5 tt)
  -- `superseding` of serials 5 and 7
  pub superseding : Tried (record_of (superseding_of old two later two))
      (given (mask_under 7 3 4 (Some 1)))
      -- the serial lost
      (given (mask_of 3 4 (Some 1)))
      -- the count dropped
      (given (mask_under 7 3 4 None))
  -- `superseding_bytes` of nine flags that end inside the second byte
  pub superseding_bytes : Tried (bytes_given (mask_under 7 3 9 None) old)
      two
      -- one byte short
      (0x2D ∷ [])
      -- no byte
      []
  -- `superseding_bytes` of no flags starting at flag 3
  pub superseding-bytes-of-none : Tried (bytes_given (mask_under 7 3 0 (Some 0)) old)
      (0x2D ∷ [])
      -- an empty part
      []
      -- the loser's bytes and more
      two
  -- `superseding_bytes` of four flags in the second byte of the second slice
  pub superseding-bytes-second : Tried (bytes_of (superseding_of old two later other) two other)
      (0x70 ∷ [])
      -- starting at the first byte
      other
      -- the byte of that number in the first slice
      (0xF0 ∷ [])
  -- `superseding_bytes` after a refusal: the first's span lies outside its bytes
  pub superseding-bytes-refused : Tried (bytes_given (mask_under 7 3 14 None) old)
      []
      -- the first slice whole
      two
      -- the loser's part
      (0x2D ∷ [])
  -- `or` of four ones by count under 5, the only mask that a shortcut reads, and of a mask under 7
  pub or : Tried (paired Or low byte later two)
      (given (mask_under 7 0 4 None), first 0x0F)
      -- the first's serial
      (given (mask_under 5 0 4 None), first 0x0F)
      -- serial 0, as of a new mask
      (given (mask_of 0 4 None), first 0x0F)
  -- `select` with the largest serial in the mask of which no flag is taken
  pub select : Tried {A = Written} (select_of low byte high byte later two (lent 8), select_bytes low byte high byte later two (lent 8))
      (selected 7)
      -- the largest of the masks that were read
      (selected 5)
      -- serial 0
      (selected 0)
  -- `Bitmap::slice`
  pub slice : Tried (slice_of later two 0 2)
      (given (mask_under 7 11 2 (Some 1)))
      -- the serial lost
      (given (mask_of 11 2 (Some 1)))
      -- another one's serial
      (given (mask_under 5 11 2 (Some 1)))
  -- `BitmapBuilder::push` and `BitmapBuilder::push_mut`
  pub push : Tried (appending (push_flag true) (builder_under 5 0 0 0) (lent 8))
      (given (builder_under 5 1 1 0), lent 8)
      -- the serial lost
      (given (builder_of 1 1 0), lent 8)
      -- the serial increased
      (given (builder_under 6 1 1 0), lent 8)
  -- `BitmapBuilder::freeze`
  pub freeze : Tried (freezing freeze_of (builder_under 5 3 5 0))
      (given (mask_under 5 0 3 (Some 1)), first 5)
      -- the serial lost
      (given (mask_of 0 3 (Some 1)), first 5)
      -- the length in its place
      (given (mask_under 3 0 3 (Some 1)), first 5)
