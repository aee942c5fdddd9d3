-- What a mask, a builder, a cursor and a window of minutes are as numbers, passed and returned, field by field.
use Rattle.std.specs.Prelude.{ℕ, ◌≡◌, true, false, List, Some, None}
use Rattle.masks.specs.declared.bitmap.Bitmap.{Bitmap}
use Rattle.masks.specs.declared.builder.BitmapBuilder.{BitmapBuilder}
use Rattle.masks.specs.declared.chunks.BitChunks.{BitChunks}
use Rattle.masks.specs.declared.iterator.BitmapIter.{BitmapIter}
use Rattle.masks.specs.declared.slice_iterator.SlicesIterator.{SlicesIterator}
use Rattle.masks.specs.declared.true_idx.TrueIdxIter.{TrueIdxIter}
use Rattle.capi.specs.Records.{builder_in, builder_out, chunks_out, chunks_place, iter_out, iter_place, mask_in, mask_out, optional_in}
use Rattle.capi.specs.Records.{serial_builder_in, slices_out, slices_place, true_in, true_out, true_place}
use Rattle.capi.specs.Window.{unless_refused, window_in}
use Rattle.capi.specs.declared.records.Mask.{Mask}

-- a mask that is passed: its zeros are read only if `known` is not 0
pub record MaskIn (m : Mask) : Type 0 where
  pub start : (mask_in m).start ≡ m.start
  pub length : (mask_in m).length ≡ m.length
  pub unknown : m.known ≡ 0 → (mask_in m).unset ≡ None
  pub known : (m.known ≡ 0 → ⊥) → (mask_in m).unset ≡ Some m.zeros
  pub serial : (mask_in m).serial ≡ m.serial

-- a mask that is returned: an unknown count is 0, and `known` 0
pub record MaskOut (m : Bitmap) : Type 0 where
  pub start : (mask_out m).start ≡ m.start
  pub length : (mask_out m).length ≡ m.length
  pub known-zeros : (n : ℕ) → m.unset ≡ Some n → (mask_out m).zeros ≡ n
  pub known-known : (n : ℕ) → m.unset ≡ Some n → (mask_out m).known ≡ 1
  pub unknown-zeros : m.unset ≡ None → (mask_out m).zeros ≡ 0
  pub unknown-known : m.unset ≡ None → (mask_out m).known ≡ 0
  pub serial : (mask_out m).serial ≡ m.serial

-- a mask that may be absent
pub record OptionalIn (m : Mask) : Type 0 where
  pub present : optional_in true m ≡ Some (mask_in m)
  pub absent : optional_in false m ≡ None

-- a builder that is passed to be appended to, and one that is passed with its serial
pub record BuilderIn (n word ones serial : ℕ) : Type 0 where
  pub append-length : (builder_in n word ones).length ≡ n
  pub append-word : (builder_in n word ones).word ≡ word
  pub append-ones : (builder_in n word ones).ones ≡ ones
  pub append-serial : (builder_in n word ones).serial ≡ 0
  pub kept-length : (serial_builder_in n word ones serial).length ≡ n
  pub kept-word : (serial_builder_in n word ones serial).word ≡ word
  pub kept-ones : (serial_builder_in n word ones serial).ones ≡ ones
  pub kept-serial : (serial_builder_in n word ones serial).serial ≡ serial

-- a builder that is returned
pub record BuilderOut (b : BitmapBuilder) : Type 0 where
  pub length : (builder_out b).length ≡ b.length
  pub word : (builder_out b).word ≡ b.word
  pub ones : (builder_out b).ones ≡ b.ones

-- the cursors that are returned, and the place that is returned after a step
pub record ChunksOut (c : BitChunks) : Type 0 where
  pub start : (chunks_out c).start ≡ c.start
  pub length : (chunks_out c).length ≡ c.length
  pub place : (chunks_out c).place ≡ c.place
  pub masked : (chunks_out c).masked ≡ 1
  pub step : chunks_place c ≡ c.place

pub record SlicesOut (c : SlicesIterator) : Type 0 where
  pub start : (slices_out c).start ≡ c.start
  pub length : (slices_out c).length ≡ c.length
  pub place : (slices_out c).place ≡ c.place
  pub masked : (slices_out c).masked ≡ 1
  pub step : slices_place c ≡ c.place

pub record IterOut (c : BitmapIter) : Type 0 where
  pub start : (iter_out c).start ≡ c.start
  pub length : (iter_out c).length ≡ c.length
  pub place : (iter_out c).place ≡ c.place
  pub masked : (iter_out c).masked ≡ 1
  pub step : iter_place c ≡ c.place

pub record TrueOut (c : TrueIdxIter) : Type 0 where
  pub start : (true_out c).start ≡ c.start
  pub length : (true_out c).length ≡ c.length
  pub place : (true_out c).place ≡ c.place
  pub with-masked : c.masked ≡ true → (true_out c).masked ≡ 1
  pub without-masked : c.masked ≡ false → (true_out c).masked ≡ 0
  pub step : true_place c ≡ c.place

-- a cursor over positions that is passed: there is a mask if `masked` is not 0
pub record TrueIn (start n place masked : ℕ) : Type 0 where
  pub begin : (true_in start n place masked).start ≡ start
  pub length : (true_in start n place masked).length ≡ n
  pub at : (true_in start n place masked).place ≡ place
  pub with : (masked ≡ 0 → ⊥) → (true_in start n place masked).masked ≡ true
  pub without : masked ≡ 0 → (true_in start n place masked).masked ≡ false

-- a window of minutes that is passed
pub record WindowIn (words counts : List ℕ) (place fill width : ℕ) : Type 0 where
  pub kept : (window_in words counts place fill width).words ≡ words
  pub counted : (window_in words counts place fill width).counts ≡ counts
  pub at : (window_in words counts place fill width).place ≡ place
  pub filled : (window_in words counts place fill width).fill ≡ fill
  pub wide : (window_in words counts place fill width).width ≡ width

-- an array that a call writes: the new one if the number is 0, else the one that was passed
pub record UnlessRefused (came new : List ℕ) : Type 0 where
  pub accepted : unless_refused 0 came new ≡ new
  pub refused : (k : ℕ) → (k ≡ 0 → ⊥) → unless_refused k came new ≡ came

-- all of these
pub record RecordPlain : Type 0 where
  pub mask_in : (m : Mask) → MaskIn m
  pub mask_out : (m : Bitmap) → MaskOut m
  pub optional_in : (m : Mask) → OptionalIn m
  pub builder_in : (n word ones serial : ℕ) → BuilderIn n word ones serial
  pub builder_out : (b : BitmapBuilder) → BuilderOut b
  pub chunks_out : (c : BitChunks) → ChunksOut c
  pub slices_out : (c : SlicesIterator) → SlicesOut c
  pub iter_out : (c : BitmapIter) → IterOut c
  pub true_out : (c : TrueIdxIter) → TrueOut c
  pub true_in : (start n place masked : ℕ) → TrueIn start n place masked
  pub window_in : (words counts : List ℕ) (place fill width : ℕ) → WindowIn words counts place fill width
  pub unless_refused : (came new : List ℕ) → UnlessRefused came new
