-- What each record of the C interface holds at an accepted and at a refused answer, and what each record that is passed is.
--
-- All numbers of a row differ, so that a field that is lost, or exchanged with another, shows.
use Rattle.std.specs.Prelude.{ℕ, ◌≡◌, true, false, [], ◌∷◌, Some, None, Ok, Err}
use Rattle.masks.specs.equations.Answer.{Answer, given, refused}
use Rattle.masks.specs.Cursor.{item, ended}
use Rattle.masks.specs.declared.bitmap.Bitmap.{Bitmap}
use Rattle.masks.specs.declared.builder.BitmapBuilder.{BitmapBuilder}
use Rattle.masks.specs.declared.chunks.BitChunks.{BitChunks}
use Rattle.masks.specs.declared.iterator.BitmapIter.{BitmapIter}
use Rattle.masks.specs.declared.slice_iterator.SlicesIterator.{SlicesIterator}
use Rattle.masks.specs.declared.true_idx.TrueIdxIter.{TrueIdxIter}
use Rattle.activity.specs.declared.window.ActivityWindow.{ActivityWindow}
use Rattle.capi.specs.Answers.{as_bit, as_builder, as_cursor, as_flag, as_mask, as_next, as_nth, as_number, as_offer, as_part, as_position}
use Rattle.capi.specs.Answers.{as_remainder, as_run, as_same_mask, as_spans, as_split, as_taken, as_validity, as_word, as_zeros}
use Rattle.capi.specs.Records.{builder_in, builder_out, chunks_out, chunks_place, iter_out, iter_place, mask_in, mask_out, optional_in}
use Rattle.capi.specs.Records.{serial_builder_in, slices_out, slices_place, true_in, true_out, true_place}
use Rattle.capi.specs.Window.{as_window, unless_refused, window_in}
use Rattle.capi.specs.declared.records.Cursor.{Cursor}
use Rattle.capi.specs.declared.records.Mask.{Mask}

-- an accepted answer of a call that returns no record when it refuses, and a refused one
abbrev pub gave : {A : Type 0} → A → Answer (Unit {0}) A
gave a = given a

abbrev pub refuses : {A : Type 0} → ℕ → Answer (Unit {0}) A
refuses k = refused k tt

-- a mask with its count, one without, and the record of each
abbrev pub counted : Bitmap
counted = record { start = 11; length = 12; unset = Some 13; serial = 14 }

abbrev pub uncounted : Bitmap
uncounted = record { start = 21; length = 22; unset = None; serial = 24 }

abbrev pub counted_record : Mask
counted_record = record { start = 11; length = 12; zeros = 13; known = 1; serial = 14 }

abbrev pub uncounted_record : Mask
uncounted_record = record { start = 21; length = 22; zeros = 0; known = 0; serial = 24 }

-- the record of no mask, and one that a caller passed: its count is not read, and no number of it is lost
abbrev pub blank : Mask
blank = record { start = 0; length = 0; zeros = 0; known = 0; serial = 0 }

abbrev pub passed : Mask
passed = record { start = 31; length = 32; zeros = 33; known = 0; serial = 34 }

-- a builder
abbrev pub built : BitmapBuilder
built = record { length = 51; word = 52; ones = 53; serial = 54 }

-- the cursors, that over positions with a mask and with none
abbrev pub at_word : BitChunks
at_word = record { start = 11; length = 12; place = 13 }

abbrev pub at_run : SlicesIterator
at_run = record { start = 11; length = 12; place = 13 }

abbrev pub at_flag : BitmapIter
at_flag = record { start = 11; length = 12; place = 13 }

abbrev pub at_one : TrueIdxIter
at_one = record { start = 11; length = 12; place = 13; masked = true }

abbrev pub at_any : TrueIdxIter
at_any = record { start = 11; length = 12; place = 13; masked = false }

-- a window of minutes
abbrev pub window : ActivityWindow
window = record { words = 45 ∷ []; counts = 46 ∷ []; place = 47; fill = 48; width = 49 }

-- ---- numbers, flags, positions, offers

pub record NumberRows : Type 0 where
  pub number : as_number (gave 7) ≡ record { refusal = 0; value = 7 }
  pub number_refused : as_number (refuses 3) ≡ record { refusal = 3; value = 0 }
  pub flag : as_flag (gave true) ≡ record { refusal = 0; value = true }
  pub flag-false : as_flag (gave false) ≡ record { refusal = 0; value = false }
  pub flag_refused : as_flag (refuses 6) ≡ record { refusal = 6; value = false }
  pub position : as_position (gave (Some 7)) ≡ record { refusal = 0; found = true; value = 7 }
  pub position-none : as_position (gave None) ≡ record { refusal = 0; found = false; value = 0 }
  pub position_refused : as_position (refuses 2) ≡ record { refusal = 2; found = false; value = 0 }
  pub nth : as_nth (Ok 7) ≡ record { refusal = 0; found = true; value = 7; ones = 0 }
  pub nth_none : as_nth (Err 8) ≡ record { refusal = 0; found = false; value = 0; ones = 8 }
  pub next : as_next (gave (record { position = Some 7; windows = 8 })) ≡ record { refusal = 0; found = true; position = 7; windows = 8 }
  pub next_none : as_next (gave (record { position = None; windows = 8 }))
      ≡ record { refusal = 0; found = false; position = 0; windows = 8 }
  pub next_refused : as_next (refuses 5) ≡ record { refusal = 5; found = false; position = 0; windows = 0 }
  pub offer : as_offer (given (record { truck = Some 7; cursor = 8; windows = 9 }))
      ≡ record { refusal = 0; found = true; truck = 7; cursor = 8; windows = 9 }
  pub offer-none : as_offer (given (record { truck = None; cursor = 8; windows = 9 }))
      ≡ record { refusal = 0; found = false; truck = 0; cursor = 8; windows = 9 }
  pub offer_refused : as_offer (refused 5 8) ≡ record { refusal = 5; found = false; truck = 0; cursor = 8; windows = 0 }

-- ---- masks and builders

pub record MaskRows : Type 0 where
  pub mask : as_mask (gave counted) ≡ record { refusal = 0; mask = counted_record }
  pub mask-uncounted : as_mask (gave uncounted) ≡ record { refusal = 0; mask = uncounted_record }
  pub mask_refused : as_mask (refuses 9) ≡ record { refusal = 9; mask = blank }
  pub slice : as_same_mask passed (gave counted) ≡ record { refusal = 0; mask = counted_record }
  pub slice_refused : as_same_mask passed (refuses 6) ≡ record { refusal = 6; mask = passed }
  pub validity : as_validity (gave (Some counted)) ≡ record { refusal = 0; present = true; mask = counted_record }
  pub validity-none : as_validity (gave None) ≡ record { refusal = 0; present = false; mask = blank }
  pub validity_refused : as_validity (refuses 4) ≡ record { refusal = 4; present = false; mask = blank }
  pub zeros : as_zeros passed (gave (record { mask = counted; zeros = 7 })) ≡ record { refusal = 0; zeros = 7; mask = counted_record }
  pub zeros_refused : as_zeros passed (refuses 3) ≡ record { refusal = 3; zeros = 0; mask = passed }
  pub part : as_part (gave (record { second = true; from = 7; to = 8; mask = counted }))
      ≡ record { refusal = 0; second = true; from = 7; to = 8; mask = counted_record }
  pub part-first : as_part (gave (record { second = false; from = 7; to = 8; mask = uncounted }))
      ≡ record { refusal = 0; second = false; from = 7; to = 8; mask = uncounted_record }
  pub part_refused : as_part (refuses 14) ≡ record { refusal = 14; second = false; from = 0; to = 0; mask = blank }
  pub builder : as_builder (given built) ≡ record { refusal = 0; builder = record { length = 51; word = 52; ones = 53 } }
  pub builder_refused : as_builder (refused 4 built) ≡ record { refusal = 4; builder = record { length = 51; word = 52; ones = 53 } }

-- ---- cursors and their steps

-- a new cursor as a record
abbrev pub cursor : ℕ → ℕ → ℕ → ℕ → Cursor
cursor start n place masked = record { start = start; length = n; place = place; masked = masked }

pub record CursorRows : Type 0 where
  pub chunks : as_cursor chunks_out (gave at_word) ≡ record { refusal = 0; cursor = cursor 11 12 13 1 }
  pub slices : as_cursor slices_out (gave at_run) ≡ record { refusal = 0; cursor = cursor 11 12 13 1 }
  pub iter : as_cursor iter_out (gave at_flag) ≡ record { refusal = 0; cursor = cursor 11 12 13 1 }
  pub true_idx : as_cursor true_out (gave at_one) ≡ record { refusal = 0; cursor = cursor 11 12 13 1 }
  pub true_idx-absent : as_cursor true_out (gave at_any) ≡ record { refusal = 0; cursor = cursor 11 12 13 0 }
  pub cursor_refused : as_cursor chunks_out (refuses 2) ≡ record { refusal = 2; cursor = cursor 0 0 0 0 }
  pub word : as_word chunks_place (given (item 7 at_word)) ≡ record { refusal = 0; found = true; value = 7; count = 0; place = 13 }
  pub word_ended : as_word chunks_place (given (ended at_word))
      ≡ record { refusal = 0; found = false; value = 0; count = 0; place = 13 }
  pub word_refused : as_word chunks_place (refused 6 at_word)
      ≡ record { refusal = 6; found = false; value = 0; count = 0; place = 13 }
  pub one : as_word true_place (given (item 7 at_one)) ≡ record { refusal = 0; found = true; value = 7; count = 0; place = 13 }
  pub flag : as_bit iter_place (given (item true at_flag)) ≡ record { refusal = 0; found = true; value = 1; count = 0; place = 13 }
  pub flag-false : as_bit iter_place (given (item false at_flag))
      ≡ record { refusal = 0; found = true; value = 0; count = 0; place = 13 }
  pub flag_ended : as_bit iter_place (given (ended at_flag))
      ≡ record { refusal = 0; found = false; value = 0; count = 0; place = 13 }
  pub flag_refused : as_bit iter_place (refused 6 at_flag) ≡ record { refusal = 6; found = false; value = 0; count = 0; place = 13 }
  pub run : as_run slices_place (given (item (record { start = 7; length = 8 }) at_run))
      ≡ record { refusal = 0; found = true; value = 7; count = 8; place = 13 }
  pub run_ended : as_run slices_place (given (ended at_run))
      ≡ record { refusal = 0; found = false; value = 0; count = 0; place = 13 }
  pub run_refused : as_run slices_place (refused 6 at_run) ≡ record { refusal = 6; found = false; value = 0; count = 0; place = 13 }
  pub taken : as_taken iter_place (given (7, at_flag)) ≡ record { refusal = 0; found = true; value = 0; count = 7; place = 13 }
  pub taken_refused : as_taken iter_place (refused 6 at_flag)
      ≡ record { refusal = 6; found = false; value = 0; count = 0; place = 13 }
  pub remainder : as_remainder 9 (gave (7, 8)) ≡ record { refusal = 0; found = true; value = 7; count = 8; place = 9 }
  pub remainder_refused : as_remainder 9 (refuses 6) ≡ record { refusal = 6; found = false; value = 0; count = 0; place = 9 }

-- ---- spans, and a window of minutes

pub record SpanRows : Type 0 where
  pub split : as_split (gave (record { prefix = 1; prefix_len = 2; bulk_start = 3; bulk_len = 4; suffix = 5; suffix_len = 6 }))
      ≡ record { refusal = 0; prefix = 1; prefix_len = 2; bulk_start = 3; bulk_len = 4; suffix = 5; suffix_len = 6 }
  pub split_refused : as_split (refuses 8)
      ≡ record { refusal = 8; prefix = 0; prefix_len = 0; bulk_start = 0; bulk_len = 0; suffix = 0; suffix_len = 0 }
  pub spans : as_spans (gave (record { start = 1; length = 2 }, record { start = 3; length = 4 }))
      ≡ record { refusal = 0; first_start = 1; first_length = 2; second_start = 3; second_length = 4 }
  pub spans_refused : as_spans (refuses 6)
      ≡ record { refusal = 6; first_start = 0; first_length = 0; second_start = 0; second_length = 0 }
  pub minutes : as_window (record { value = window; refusal = 0 }) ≡ record { refusal = 0; place = 47; fill = 48; width = 49 }
  pub minutes_refused : as_window (record { value = window; refusal = 16 }) ≡ record { refusal = 16; place = 47; fill = 48; width = 49 }

-- ---- what is passed, and what is returned without an answer

pub record RecordRows : Type 0 where
  -- a count is read if `known` is not 0
  pub mask : mask_in counted_record ≡ counted
  pub mask_odd : mask_in (record { start = 11; length = 12; zeros = 13; known = 255; serial = 14 }) ≡ counted
  pub mask-uncounted : mask_in passed ≡ record { start = 31; length = 32; unset = None; serial = 34 }
  pub present : optional_in true counted_record ≡ Some counted
  pub absent : optional_in false counted_record ≡ None
  pub returned : mask_out counted ≡ counted_record
  pub returned-uncounted : mask_out uncounted ≡ uncounted_record
  pub builder : builder_in 51 52 53 ≡ record { length = 51; word = 52; ones = 53; serial = 0 }
  pub builder-serial : serial_builder_in 51 52 53 54 ≡ built
  pub builder-returned : builder_out built ≡ record { length = 51; word = 52; ones = 53 }
  pub true_idx : true_in 11 12 13 1 ≡ at_one
  pub true_idx_odd : true_in 11 12 13 255 ≡ at_one
  pub true_idx-absent : true_in 11 12 13 0 ≡ at_any
  pub minutes : window_in (45 ∷ []) (46 ∷ []) 47 48 49 ≡ window
  -- an array is written only if nothing is refused
  pub written : unless_refused 0 (1 ∷ []) (2 ∷ []) ≡ 2 ∷ []
  pub unwritten : unless_refused 16 (1 ∷ []) (2 ∷ []) ≡ 1 ∷ []

pub record AnswerRows : Type 0 where
  pub numbers : NumberRows
  pub masks : MaskRows
  pub cursors : CursorRows
  pub spans : SpanRows
  pub records : RecordRows
