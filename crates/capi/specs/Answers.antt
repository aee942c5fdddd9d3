-- The records in which answers are returned to C and Rust, defined by what an answer holds and not call by call.
--
-- `refusal` is 0, or the number of the check that failed. On refusal the record has what the call would have changed, unchanged: a mask,
-- a builder, a cursor's place, the cursor of an offer, a window's numbers. Every other field is then 0.
use Rattle.std.specs.Prelude.{ℕ, Bool, true, false, Option, Some, None, Result, Ok, Err}
use Rattle.words.specs.Flags.{digit}
use Rattle.masks.specs.declared.next_and_not.NextFlag.{NextFlag}
use Rattle.masks.specs.declared.bitmap.Recounted.{Recounted}
use Rattle.masks.specs.equations.Answer.{Answer, given, refused}
use Rattle.masks.specs.Cursor.{Step, item, ended}
use Rattle.masks.specs.declared.aligned.AlignedBitmapSlice.{AlignedBitmapSlice}
use Rattle.masks.specs.declared.bitmap.Bitmap.{Bitmap}
use Rattle.masks.specs.declared.bitmask.Span.{Span}
use Rattle.masks.specs.declared.builder.BitmapBuilder.{BitmapBuilder}
use Rattle.masks.specs.declared.slice_iterator.Run.{Run}
use Rattle.dispatch.specs.declared.offer.Offering.{Offering}
use Rattle.masks.specs.declared.superseding.Winner.{Winner}
use Rattle.capi.specs.Records.{mask_out, no_mask, builder_out, no_cursor}
use Rattle.capi.specs.declared.answers.BuilderAnswer.{BuilderAnswer}
use Rattle.capi.specs.declared.answers.CursorAnswer.{CursorAnswer}
use Rattle.capi.specs.declared.answers.FlagAnswer.{FlagAnswer}
use Rattle.capi.specs.declared.answers.MaskAnswer.{MaskAnswer}
use Rattle.capi.specs.declared.answers.NextAnswer.{NextAnswer}
use Rattle.capi.specs.declared.answers.NthAnswer.{NthAnswer}
use Rattle.capi.specs.declared.answers.NumberAnswer.{NumberAnswer}
use Rattle.capi.specs.declared.answers.OfferAnswer.{OfferAnswer}
use Rattle.capi.specs.declared.answers.PartAnswer.{PartAnswer}
use Rattle.capi.specs.declared.answers.PositionAnswer.{PositionAnswer}
use Rattle.capi.specs.declared.answers.SpansAnswer.{SpansAnswer}
use Rattle.capi.specs.declared.answers.SplitAnswer.{SplitAnswer}
use Rattle.capi.specs.declared.answers.StepAnswer.{StepAnswer}
use Rattle.capi.specs.declared.answers.ValidityAnswer.{ValidityAnswer}
use Rattle.capi.specs.declared.answers.ZerosAnswer.{ZerosAnswer}
use Rattle.capi.specs.declared.records.Builder.{Builder}
use Rattle.capi.specs.declared.records.Cursor.{Cursor}
use Rattle.capi.specs.declared.records.Mask.{Mask}

-- ---- a number, a flag, a position

abbrev pub number_of : ℕ → ℕ → NumberAnswer
number_of k n = record { refusal = k; value = n }

unfoldable pub as_number : {S : Type 0} → Answer S ℕ → NumberAnswer
as_number (given n) = number_of 0 n
as_number (refused k s) = number_of k 0

abbrev pub flag_of : ℕ → Bool → FlagAnswer
flag_of k x = record { refusal = k; value = x }

unfoldable pub as_flag : {S : Type 0} → Answer S Bool → FlagAnswer
as_flag (given x) = flag_of 0 x
as_flag (refused k s) = flag_of k false

abbrev pub position_of : ℕ → Bool → ℕ → PositionAnswer
position_of k found p = record { refusal = k; found = found; value = p }

unfoldable pub as_position : {S : Type 0} → Answer S (Option ℕ) → PositionAnswer
as_position (given (Some p)) = position_of 0 true p
as_position (given None) = position_of 0 false 0
as_position (refused k s) = position_of k false 0

-- the answer of a search for a set bit of a word, which refuses nothing
unfoldable pub as_nth : Result ℕ ℕ → NthAnswer
as_nth (Ok p) = record { refusal = 0; found = true; value = p; ones = 0 }
as_nth (Err k) = record { refusal = 0; found = false; value = 0; ones = k }

-- ---- a search by windows, an offer

abbrev pub next_of : ℕ → Bool → ℕ → ℕ → NextAnswer
next_of k found p n = record { refusal = k; found = found; position = p; windows = n }

-- a position that may be missing
abbrev pub next_at : Option ℕ → ℕ → NextAnswer
next_at (Some p) n = next_of 0 true p n
next_at None n = next_of 0 false 0 n

unfoldable pub as_next : {S : Type 0} → Answer S NextFlag → NextAnswer
as_next (given f) = next_at f.position f.windows
as_next (refused k s) = next_of k false 0 0

abbrev pub offer_record : ℕ → Bool → ℕ → ℕ → ℕ → OfferAnswer
offer_record k found t cursor n = record { refusal = k; found = found; truck = t; cursor = cursor; windows = n }

-- a truck that may be missing
abbrev pub offer_at : Option ℕ → ℕ → ℕ → OfferAnswer
offer_at (Some t) cursor n = offer_record 0 true t cursor n
offer_at None cursor n = offer_record 0 false 0 cursor n

unfoldable pub as_offer : Answer ℕ Offering → OfferAnswer
as_offer (given o) = offer_at o.truck o.cursor o.windows
as_offer (refused k cursor) = offer_record k false 0 cursor 0

-- ---- a mask

abbrev pub mask_answer : ℕ → Mask → MaskAnswer
mask_answer k m = record { refusal = k; mask = m }

-- the answer of a call that returns a mask, and none on refusal
unfoldable pub as_mask : {S : Type 0} → Answer S Bitmap → MaskAnswer
as_mask (given m) = mask_answer 0 (mask_out m)
as_mask (refused k s) = mask_answer k no_mask

-- the answer of a slice: on refusal the record that was passed, with every number unchanged
unfoldable pub as_same_mask : {S : Type 0} → Mask → Answer S Bitmap → MaskAnswer
as_same_mask came (given m) = mask_answer 0 (mask_out m)
as_same_mask came (refused k s) = mask_answer k came

abbrev pub validity_of : ℕ → Bool → Mask → ValidityAnswer
validity_of k present m = record { refusal = k; present = present; mask = m }

unfoldable pub as_validity : {S : Type 0} → Answer S (Option Bitmap) → ValidityAnswer
as_validity (given (Some m)) = validity_of 0 true (mask_out m)
as_validity (given None) = validity_of 0 false no_mask
as_validity (refused k s) = validity_of k false no_mask

abbrev pub zeros_of : ℕ → ℕ → Mask → ZerosAnswer
zeros_of k zeros m = record { refusal = k; zeros = zeros; mask = m }

unfoldable pub as_zeros : {S : Type 0} → Mask → Answer S Recounted → ZerosAnswer
as_zeros came (given r) = zeros_of 0 r.zeros (mask_out r.mask)
as_zeros came (refused k s) = zeros_of k 0 came

-- whether the winner of two masks is in the second slice, the part of its slice that holds it, and its record over that part
abbrev pub part_answer : ℕ → Bool → ℕ → ℕ → Mask → PartAnswer
part_answer k second from to m = record { refusal = k; second = second; from = from; to = to; mask = m }

unfoldable pub as_part : {S : Type 0} → Answer S Winner → PartAnswer
as_part (given p) = part_answer 0 p.second p.from p.to (mask_out p.mask)
as_part (refused k s) = part_answer k false 0 0 no_mask

-- ---- a builder

abbrev pub builder_answer : ℕ → Builder → BuilderAnswer
builder_answer k b = record { refusal = k; builder = b }

unfoldable pub as_builder : Answer BitmapBuilder BitmapBuilder → BuilderAnswer
as_builder (given b) = builder_answer 0 (builder_out b)
as_builder (refused k b) = builder_answer k (builder_out b)

-- ---- a cursor, and what its steps return

abbrev pub cursor_answer : ℕ → Cursor → CursorAnswer
cursor_answer k c = record { refusal = k; cursor = c }

unfoldable pub as_cursor : {S C : Type 0} → (C → Cursor) → Answer S C → CursorAnswer
as_cursor out (given c) = cursor_answer 0 (out c)
as_cursor out (refused k s) = cursor_answer k no_cursor

abbrev pub step_of : ℕ → Bool → ℕ → ℕ → ℕ → StepAnswer
step_of k found value n place = record { refusal = k; found = found; value = value; count = n; place = place }

-- an item as `value` and `count`, and the place of the cursor after the step
unfoldable pub as_step : {C A : Type 0} → (A → ℕ) → (A → ℕ) → (C → ℕ) → Answer C (Step C A) → StepAnswer
as_step value count place (given (item a c)) = step_of 0 true (value a) (count a) (place c)
as_step value count place (given (ended c)) = step_of 0 false 0 0 (place c)
as_step value count place (refused k c) = step_of k false 0 0 (place c)

-- steps whose item is a number (a word, a position), a flag, a run
unfoldable pub as_word : {C : Type 0} → (C → ℕ) → Answer C (Step C ℕ) → StepAnswer
as_word place a = as_step (λ (n : ℕ). n) (λ (n : ℕ). 0) place a

unfoldable pub as_bit : {C : Type 0} → (C → ℕ) → Answer C (Step C Bool) → StepAnswer
as_bit place a = as_step digit (λ (x : Bool). 0) place a

unfoldable pub as_run : {C : Type 0} → (C → ℕ) → Answer C (Step C Run) → StepAnswer
as_run place a = as_step (λ (r : Run). r.start) (λ (r : Run). r.length) place a

-- a number of flags or positions as `count`, and the place of the cursor past them
unfoldable pub as_taken : {C : Type 0} → (C → ℕ) → Answer C (ℕ × C) → StepAnswer
as_taken place (given (n, c)) = step_of 0 true 0 n (place c)
as_taken place (refused k c) = step_of k false 0 0 (place c)

-- a word as `value`, the number of its flags as `count`, and the place that was passed: the call moves no cursor
unfoldable pub as_remainder : {C : Type 0} → ℕ → Answer C (ℕ × ℕ) → StepAnswer
as_remainder place (given (w, n)) = step_of 0 true w n place
as_remainder place (refused k c) = step_of k false 0 0 place

-- ---- a span split in parts

abbrev pub split_of : ℕ → ℕ → ℕ → ℕ → ℕ → ℕ → ℕ → SplitAnswer
split_of k prefix prefix_len bulk_start_of bulk_len suffix suffix_len =
    record {
      refusal = k;
      prefix = prefix;
      prefix_len = prefix_len;
      bulk_start = bulk_start_of;
      bulk_len = bulk_len;
      suffix = suffix;
      suffix_len = suffix_len;
    }

unfoldable pub as_split : {S : Type 0} → Answer S AlignedBitmapSlice → SplitAnswer
as_split (given s) = split_of 0 s.prefix s.prefix_len s.bulk_start s.bulk_len s.suffix s.suffix_len
as_split (refused k s) = split_of k 0 0 0 0 0 0

abbrev pub spans_of : ℕ → ℕ → ℕ → ℕ → ℕ → SpansAnswer
spans_of k first_start first_length second_start second_length =
    record {
      refusal = k;
      first_start = first_start;
      first_length = first_length;
      second_start = second_start;
      second_length = second_length;
    }

unfoldable pub as_spans : {S : Type 0} → Answer S (Span × Span) → SpansAnswer
as_spans (given (a, b)) = spans_of 0 a.start a.length b.start b.length
as_spans (refused k s) = spans_of k 0 0 0 0
