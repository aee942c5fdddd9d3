-- What the records of answers hold, by cases on the call's answer.
--
-- If the call accepts, `refusal` is 0 and each other field is that of the value. If it refuses, `refusal` is exactly the number of the
-- answer, the record or cursor that a refusal returns is the caller's or that of the answer, and each other field is 0 or false. All of it
-- holds for every value and every number, so a call that refuses does so in C, by the same number. `Refusals` states by which numbers each
-- export may refuse, and that what it then returns is what was passed.
--
-- `StepPlain` states the same of what cursors return, `RecordPlain` what masks, builders and cursors are as numbers.
use Rattle.std.specs.Prelude.{ℕ, ◌≡◌, Bool, true, false, Some, None, Ok, Err}
use Rattle.masks.specs.equations.Answer.{given, refused}
use Rattle.masks.specs.declared.aligned.AlignedBitmapSlice.{AlignedBitmapSlice}
use Rattle.masks.specs.declared.bitmap.Bitmap.{Bitmap}
use Rattle.masks.specs.declared.bitmap.Recounted.{Recounted}
use Rattle.masks.specs.declared.bitmask.Span.{Span}
use Rattle.masks.specs.declared.builder.BitmapBuilder.{BitmapBuilder}
use Rattle.masks.specs.declared.superseding.Winner.{Winner}
use Rattle.activity.specs.Window.{Answer as Windowed}
use Rattle.activity.specs.declared.window.ActivityWindow.{ActivityWindow}
use Rattle.capi.specs.Answers.{as_builder, as_flag, as_mask, as_next, as_nth, as_number, as_offer, as_part, as_position, as_same_mask}
use Rattle.capi.specs.Answers.{as_spans, as_split, as_validity, as_zeros}
use Rattle.capi.specs.Records.{builder_out, mask_out}
use Rattle.capi.specs.Window.{as_window}
use Rattle.capi.specs.declared.records.Mask.{Mask}

-- the record in place of a mask if there is none
abbrev pub blank_mask : Mask
blank_mask = record { start = 0; length = 0; zeros = 0; known = 0; serial = 0 }

-- a number
pub record NumberPlain (S : Type 0) : Type 0 where
  pub given-refusal : (n : ℕ) → (as_number {S = S} (given n)).refusal ≡ 0
  pub given-value : (n : ℕ) → (as_number {S = S} (given n)).value ≡ n
  pub refused-refusal : (k : ℕ) (s : S) → (as_number {S = S} (refused k s)).refusal ≡ k
  pub refused-value : (k : ℕ) (s : S) → (as_number {S = S} (refused k s)).value ≡ 0

-- a flag
pub record FlagPlain (S : Type 0) : Type 0 where
  pub given-refusal : (x : Bool) → (as_flag {S = S} (given x)).refusal ≡ 0
  pub given-value : (x : Bool) → (as_flag {S = S} (given x)).value ≡ x
  pub refused-refusal : (k : ℕ) (s : S) → (as_flag {S = S} (refused k s)).refusal ≡ k
  pub refused-value : (k : ℕ) (s : S) → (as_flag {S = S} (refused k s)).value ≡ false

-- a position that may be missing
pub record PositionPlain (S : Type 0) : Type 0 where
  pub some-refusal : (p : ℕ) → (as_position {S = S} (given (Some p))).refusal ≡ 0
  pub some-found : (p : ℕ) → (as_position {S = S} (given (Some p))).found ≡ true
  pub some-value : (p : ℕ) → (as_position {S = S} (given (Some p))).value ≡ p
  pub none-refusal : (as_position {S = S} (given None)).refusal ≡ 0
  pub none-found : (as_position {S = S} (given None)).found ≡ false
  pub none-value : (as_position {S = S} (given None)).value ≡ 0
  pub refused-refusal : (k : ℕ) (s : S) → (as_position {S = S} (refused k s)).refusal ≡ k
  pub refused-found : (k : ℕ) (s : S) → (as_position {S = S} (refused k s)).found ≡ false
  pub refused-value : (k : ℕ) (s : S) → (as_position {S = S} (refused k s)).value ≡ 0

-- a set bit of a word, or how many are set: it refuses nothing
pub record NthPlain : Type 0 where
  pub given-refusal : (p : ℕ) → (as_nth (Ok p)).refusal ≡ 0
  pub given-found : (p : ℕ) → (as_nth (Ok p)).found ≡ true
  pub given-value : (p : ℕ) → (as_nth (Ok p)).value ≡ p
  pub given-ones : (p : ℕ) → (as_nth (Ok p)).ones ≡ 0
  pub none-refusal : (n : ℕ) → (as_nth (Err n)).refusal ≡ 0
  pub none-found : (n : ℕ) → (as_nth (Err n)).found ≡ false
  pub none-value : (n : ℕ) → (as_nth (Err n)).value ≡ 0
  pub none-ones : (n : ℕ) → (as_nth (Err n)).ones ≡ n

-- a search by windows
pub record NextPlain (S : Type 0) : Type 0 where
  pub some-refusal : (p n : ℕ) → (as_next {S = S} (given (record { position = Some p; windows = n }))).refusal ≡ 0
  pub some-found : (p n : ℕ) → (as_next {S = S} (given (record { position = Some p; windows = n }))).found ≡ true
  pub some-position : (p n : ℕ) → (as_next {S = S} (given (record { position = Some p; windows = n }))).position ≡ p
  pub some-windows : (p n : ℕ) → (as_next {S = S} (given (record { position = Some p; windows = n }))).windows ≡ n
  pub none-refusal : (n : ℕ) → (as_next {S = S} (given (record { position = None; windows = n }))).refusal ≡ 0
  pub none-found : (n : ℕ) → (as_next {S = S} (given (record { position = None; windows = n }))).found ≡ false
  pub none-position : (n : ℕ) → (as_next {S = S} (given (record { position = None; windows = n }))).position ≡ 0
  pub none-windows : (n : ℕ) → (as_next {S = S} (given (record { position = None; windows = n }))).windows ≡ n
  pub refused-refusal : (k : ℕ) (s : S) → (as_next {S = S} (refused k s)).refusal ≡ k
  pub refused-found : (k : ℕ) (s : S) → (as_next {S = S} (refused k s)).found ≡ false
  pub refused-position : (k : ℕ) (s : S) → (as_next {S = S} (refused k s)).position ≡ 0
  pub refused-windows : (k : ℕ) (s : S) → (as_next {S = S} (refused k s)).windows ≡ 0

-- an offer: a refused one has the cursor that was passed
pub record OfferPlain : Type 0 where
  pub some-refusal : (t c n : ℕ) → (as_offer (given (record { truck = Some t; cursor = c; windows = n }))).refusal ≡ 0
  pub some-found : (t c n : ℕ) → (as_offer (given (record { truck = Some t; cursor = c; windows = n }))).found ≡ true
  pub some-truck : (t c n : ℕ) → (as_offer (given (record { truck = Some t; cursor = c; windows = n }))).truck ≡ t
  pub some-cursor : (t c n : ℕ) → (as_offer (given (record { truck = Some t; cursor = c; windows = n }))).cursor ≡ c
  pub some-windows : (t c n : ℕ) → (as_offer (given (record { truck = Some t; cursor = c; windows = n }))).windows ≡ n
  pub none-refusal : (c n : ℕ) → (as_offer (given (record { truck = None; cursor = c; windows = n }))).refusal ≡ 0
  pub none-found : (c n : ℕ) → (as_offer (given (record { truck = None; cursor = c; windows = n }))).found ≡ false
  pub none-truck : (c n : ℕ) → (as_offer (given (record { truck = None; cursor = c; windows = n }))).truck ≡ 0
  pub none-cursor : (c n : ℕ) → (as_offer (given (record { truck = None; cursor = c; windows = n }))).cursor ≡ c
  pub none-windows : (c n : ℕ) → (as_offer (given (record { truck = None; cursor = c; windows = n }))).windows ≡ n
  pub refused-refusal : (k c : ℕ) → (as_offer (refused k c)).refusal ≡ k
  pub refused-found : (k c : ℕ) → (as_offer (refused k c)).found ≡ false
  pub refused-truck : (k c : ℕ) → (as_offer (refused k c)).truck ≡ 0
  pub refused-cursor : (k c : ℕ) → (as_offer (refused k c)).cursor ≡ c
  pub refused-windows : (k c : ℕ) → (as_offer (refused k c)).windows ≡ 0

-- a mask
pub record MaskPlain (S : Type 0) : Type 0 where
  pub given-refusal : (m : Bitmap) → (as_mask {S = S} (given m)).refusal ≡ 0
  pub given-mask : (m : Bitmap) → (as_mask {S = S} (given m)).mask ≡ mask_out m
  pub refused-refusal : (k : ℕ) (s : S) → (as_mask {S = S} (refused k s)).refusal ≡ k
  pub refused-mask : (k : ℕ) (s : S) → (as_mask {S = S} (refused k s)).mask ≡ blank_mask

-- a slice: a refused one has the record that was passed
pub record SameMaskPlain (S : Type 0) : Type 0 where
  pub given-refusal : (came : Mask) (m : Bitmap) → (as_same_mask {S = S} came (given m)).refusal ≡ 0
  pub given-mask : (came : Mask) (m : Bitmap) → (as_same_mask {S = S} came (given m)).mask ≡ mask_out m
  pub refused-refusal : (came : Mask) (k : ℕ) (s : S) → (as_same_mask {S = S} came (refused k s)).refusal ≡ k
  pub refused-mask : (came : Mask) (k : ℕ) (s : S) → (as_same_mask {S = S} came (refused k s)).mask ≡ came

-- a mask that may be missing
pub record ValidityPlain (S : Type 0) : Type 0 where
  pub some-refusal : (m : Bitmap) → (as_validity {S = S} (given (Some m))).refusal ≡ 0
  pub some-present : (m : Bitmap) → (as_validity {S = S} (given (Some m))).present ≡ true
  pub some-mask : (m : Bitmap) → (as_validity {S = S} (given (Some m))).mask ≡ mask_out m
  pub none-refusal : (as_validity {S = S} (given None)).refusal ≡ 0
  pub none-present : (as_validity {S = S} (given None)).present ≡ false
  pub none-mask : (as_validity {S = S} (given None)).mask ≡ blank_mask
  pub refused-refusal : (k : ℕ) (s : S) → (as_validity {S = S} (refused k s)).refusal ≡ k
  pub refused-present : (k : ℕ) (s : S) → (as_validity {S = S} (refused k s)).present ≡ false
  pub refused-mask : (k : ℕ) (s : S) → (as_validity {S = S} (refused k s)).mask ≡ blank_mask

-- the zeros of a mask: a refused answer has the record that was passed
pub record ZerosPlain (S : Type 0) : Type 0 where
  pub given-refusal : (came : Mask) (r : Recounted) → (as_zeros {S = S} came (given r)).refusal ≡ 0
  pub given-zeros : (came : Mask) (r : Recounted) → (as_zeros {S = S} came (given r)).zeros ≡ r.zeros
  pub given-mask : (came : Mask) (r : Recounted) → (as_zeros {S = S} came (given r)).mask ≡ mask_out r.mask
  pub refused-refusal : (came : Mask) (k : ℕ) (s : S) → (as_zeros {S = S} came (refused k s)).refusal ≡ k
  pub refused-zeros : (came : Mask) (k : ℕ) (s : S) → (as_zeros {S = S} came (refused k s)).zeros ≡ 0
  pub refused-mask : (came : Mask) (k : ℕ) (s : S) → (as_zeros {S = S} came (refused k s)).mask ≡ came

-- the winner of two masks, and its part of the bytes
pub record PartPlain (S : Type 0) : Type 0 where
  pub given-refusal : (p : Winner) → (as_part {S = S} (given p)).refusal ≡ 0
  pub given-second : (p : Winner) → (as_part {S = S} (given p)).second ≡ p.second
  pub given-from : (p : Winner) → (as_part {S = S} (given p)).from ≡ p.from
  pub given-to : (p : Winner) → (as_part {S = S} (given p)).to ≡ p.to
  pub given-mask : (p : Winner) → (as_part {S = S} (given p)).mask ≡ mask_out p.mask
  pub refused-refusal : (k : ℕ) (s : S) → (as_part {S = S} (refused k s)).refusal ≡ k
  pub refused-second : (k : ℕ) (s : S) → (as_part {S = S} (refused k s)).second ≡ false
  pub refused-from : (k : ℕ) (s : S) → (as_part {S = S} (refused k s)).from ≡ 0
  pub refused-to : (k : ℕ) (s : S) → (as_part {S = S} (refused k s)).to ≡ 0
  pub refused-mask : (k : ℕ) (s : S) → (as_part {S = S} (refused k s)).mask ≡ blank_mask

-- a builder: a refused answer has the one that was passed
pub record BuilderPlain : Type 0 where
  pub given-refusal : (b : BitmapBuilder) → (as_builder (given b)).refusal ≡ 0
  pub given-builder : (b : BitmapBuilder) → (as_builder (given b)).builder ≡ builder_out b
  pub refused-refusal : (k : ℕ) (b : BitmapBuilder) → (as_builder (refused k b)).refusal ≡ k
  pub refused-builder : (k : ℕ) (b : BitmapBuilder) → (as_builder (refused k b)).builder ≡ builder_out b

-- a span split in three
pub record SplitPlain (S : Type 0) : Type 0 where
  pub given-refusal : (a : AlignedBitmapSlice) → (as_split {S = S} (given a)).refusal ≡ 0
  pub given-prefix : (a : AlignedBitmapSlice) → (as_split {S = S} (given a)).prefix ≡ a.prefix
  pub given-prefix_len : (a : AlignedBitmapSlice) → (as_split {S = S} (given a)).prefix_len ≡ a.prefix_len
  pub given-bulk_start : (a : AlignedBitmapSlice) → (as_split {S = S} (given a)).bulk_start ≡ a.bulk_start
  pub given-bulk_len : (a : AlignedBitmapSlice) → (as_split {S = S} (given a)).bulk_len ≡ a.bulk_len
  pub given-suffix : (a : AlignedBitmapSlice) → (as_split {S = S} (given a)).suffix ≡ a.suffix
  pub given-suffix_len : (a : AlignedBitmapSlice) → (as_split {S = S} (given a)).suffix_len ≡ a.suffix_len
  pub refused-refusal : (k : ℕ) (s : S) → (as_split {S = S} (refused k s)).refusal ≡ k
  pub refused-prefix : (k : ℕ) (s : S) → (as_split {S = S} (refused k s)).prefix ≡ 0
  pub refused-prefix_len : (k : ℕ) (s : S) → (as_split {S = S} (refused k s)).prefix_len ≡ 0
  pub refused-bulk_start : (k : ℕ) (s : S) → (as_split {S = S} (refused k s)).bulk_start ≡ 0
  pub refused-bulk_len : (k : ℕ) (s : S) → (as_split {S = S} (refused k s)).bulk_len ≡ 0
  pub refused-suffix : (k : ℕ) (s : S) → (as_split {S = S} (refused k s)).suffix ≡ 0
  pub refused-suffix_len : (k : ℕ) (s : S) → (as_split {S = S} (refused k s)).suffix_len ≡ 0

-- two spans
pub record SpansPlain (S : Type 0) : Type 0 where
  pub given-refusal : (a b : Span) → (as_spans {S = S} (given (a, b))).refusal ≡ 0
  pub given-first_start : (a b : Span) → (as_spans {S = S} (given (a, b))).first_start ≡ a.start
  pub given-first_length : (a b : Span) → (as_spans {S = S} (given (a, b))).first_length ≡ a.length
  pub given-second_start : (a b : Span) → (as_spans {S = S} (given (a, b))).second_start ≡ b.start
  pub given-second_length : (a b : Span) → (as_spans {S = S} (given (a, b))).second_length ≡ b.length
  pub refused-refusal : (k : ℕ) (s : S) → (as_spans {S = S} (refused k s)).refusal ≡ k
  pub refused-first_start : (k : ℕ) (s : S) → (as_spans {S = S} (refused k s)).first_start ≡ 0
  pub refused-first_length : (k : ℕ) (s : S) → (as_spans {S = S} (refused k s)).first_length ≡ 0
  pub refused-second_start : (k : ℕ) (s : S) → (as_spans {S = S} (refused k s)).second_start ≡ 0
  pub refused-second_length : (k : ℕ) (s : S) → (as_spans {S = S} (refused k s)).second_length ≡ 0

-- the numbers of a window of minutes: the number of the answer, and the numbers of its window
pub record WindowPlain : Type 0 where
  pub refusal : (a : Windowed ActivityWindow) → (as_window a).refusal ≡ a.refusal
  pub place : (a : Windowed ActivityWindow) → (as_window a).place ≡ (a.value).place
  pub fill : (a : Windowed ActivityWindow) → (as_window a).fill ≡ (a.value).fill
  pub width : (a : Windowed ActivityWindow) → (as_window a).width ≡ (a.value).width

-- all of these
pub record AnswerPlain : Type 1 where
  pub number : (S : Type 0) → NumberPlain S
  pub flag : (S : Type 0) → FlagPlain S
  pub position : (S : Type 0) → PositionPlain S
  pub nth : NthPlain
  pub next : (S : Type 0) → NextPlain S
  pub offer : OfferPlain
  pub mask : (S : Type 0) → MaskPlain S
  pub same_mask : (S : Type 0) → SameMaskPlain S
  pub validity : (S : Type 0) → ValidityPlain S
  pub zeros : (S : Type 0) → ZerosPlain S
  pub part : (S : Type 0) → PartPlain S
  pub builder : BuilderPlain
  pub split : (S : Type 0) → SplitPlain S
  pub spans : (S : Type 0) → SpansPlain S
  pub window : WindowPlain
