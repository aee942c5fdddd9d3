-- The records that are passed to and from C and Rust, and the record of masks that each one is.
use Rattle.std.specs.Prelude.{ℕ, Bool, not, cond, eqb, Option, Some, None}
use Rattle.words.specs.Flags.{digit}
use Rattle.masks.specs.Builder.{builder_under}
use Rattle.masks.specs.Mask.{mask_under}
use Rattle.masks.specs.TrueIdx.{true_at}
use Rattle.masks.specs.declared.bitmap.Bitmap.{Bitmap}
use Rattle.masks.specs.declared.builder.BitmapBuilder.{BitmapBuilder}
use Rattle.masks.specs.declared.chunks.BitChunks.{BitChunks}
use Rattle.masks.specs.declared.iterator.BitmapIter.{BitmapIter}
use Rattle.masks.specs.declared.slice_iterator.SlicesIterator.{SlicesIterator}
use Rattle.masks.specs.declared.true_idx.TrueIdxIter.{TrueIdxIter}
use Rattle.capi.specs.declared.records.Builder.{Builder}
use Rattle.capi.specs.declared.records.Cursor.{Cursor}
use Rattle.capi.specs.declared.records.Mask.{Mask}

-- ---- the mask

-- a zero count, which is read only if `known` is not 0
unfoldable pub count_in : ℕ → ℕ → Option ℕ
count_in zeros known = cond (eqb known 0) None (Some zeros)

unfoldable pub mask_in : Mask → Bitmap
mask_in m = mask_under m.serial m.start m.length (count_in m.zeros m.known)

-- a mask's record, in which an unknown count is 0
abbrev pub mask_with : ℕ → ℕ → ℕ → Option ℕ → Mask
mask_with serial start n (Some z) = record { start = start; length = n; zeros = z; known = 1; serial = serial }
mask_with serial start n None = record { start = start; length = n; zeros = 0; known = 0; serial = serial }

unfoldable pub mask_out : Bitmap → Mask
mask_out m = mask_with m.serial m.start m.length m.unset

-- the record in place of a mask if there is no mask
abbrev pub no_mask : Mask
no_mask = mask_with 0 0 0 None

-- a mask that may be absent: the record of an absent one is not read
unfoldable pub optional_in : Bool → Mask → Option Bitmap
optional_in present m = cond present (Some (mask_in m)) None

-- ---- the builder

-- a builder with the serial that the caller kept
unfoldable pub serial_builder_in : ℕ → ℕ → ℕ → ℕ → BitmapBuilder
serial_builder_in n word ones serial = builder_under serial n word ones

-- a builder to append to: its serial is 0, since an export that appends is not passed one
unfoldable pub builder_in : ℕ → ℕ → ℕ → BitmapBuilder
builder_in n word ones = builder_under 0 n word ones

unfoldable pub builder_out : BitmapBuilder → Builder
builder_out b = record { length = b.length; word = b.word; ones = b.ones }

-- ---- the cursors: one record for all; only in that over positions can `masked` be 0, if there is no mask
--
-- A cursor is passed as its numbers. A call that moves it returns only its new place: its other numbers do not change.

abbrev pub cursor_of : ℕ → ℕ → ℕ → ℕ → Cursor
cursor_of start n place masked = record { start = start; length = n; place = place; masked = masked }

-- the record in place of a cursor if there is no cursor
abbrev pub no_cursor : Cursor
no_cursor = cursor_of 0 0 0 0

unfoldable pub chunks_out : BitChunks → Cursor
chunks_out c = cursor_of c.start c.length c.place 1

unfoldable pub slices_out : SlicesIterator → Cursor
slices_out c = cursor_of c.start c.length c.place 1

unfoldable pub iter_out : BitmapIter → Cursor
iter_out c = cursor_of c.start c.length c.place 1

unfoldable pub true_in : ℕ → ℕ → ℕ → ℕ → TrueIdxIter
true_in start n place masked = true_at start n place (not (eqb masked 0))

unfoldable pub true_out : TrueIdxIter → Cursor
true_out c = cursor_of c.start c.length c.place (digit c.masked)

-- the place of a cursor

abbrev pub chunks_place : BitChunks → ℕ
chunks_place c = c.place

abbrev pub slices_place : SlicesIterator → ℕ
slices_place c = c.place

abbrev pub iter_place : BitmapIter → ℕ
iter_place c = c.place

abbrev pub true_place : TrueIdxIter → ℕ
true_place c = c.place
