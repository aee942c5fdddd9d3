-- The rows of `proofs/tables/AnswerRows.antt`, by computation.
use mathlib.Core.Path.{refl}
use Rattle.capi.specs.Answers.{as_bit, as_builder, as_cursor, as_flag, as_mask, as_next, as_nth, as_number, as_offer, as_part, as_position}
use Rattle.capi.specs.Answers.{as_remainder, as_run, as_same_mask, as_spans, as_split, as_step, as_taken, as_validity, as_word, as_zeros}
use Rattle.capi.specs.Records.{builder_in, builder_out, chunks_out, count_in, iter_out, mask_in, mask_out, optional_in}
use Rattle.capi.specs.Records.{serial_builder_in, slices_out, true_in, true_out}
use Rattle.capi.specs.Window.{as_window, unless_refused, window_in}
use Rattle.capi.proofs.tables.AnswerRows.{AnswerRows, CursorRows, MaskRows, NumberRows, RecordRows, SpanRows}

number_rows : NumberRows
unfolding as_number as_flag as_position as_nth as_next as_offer
number_rows =
    record {
      number = refl;
      number_refused = refl;
      flag = refl;
      flag-false = refl;
      flag_refused = refl;
      position = refl;
      position-none = refl;
      position_refused = refl;
      nth = refl;
      nth_none = refl;
      next = refl;
      next_none = refl;
      next_refused = refl;
      offer = refl;
      offer-none = refl;
      offer_refused = refl;
    }

mask_rows : MaskRows
unfolding as_mask as_same_mask as_validity as_zeros as_part as_builder mask_out builder_out
mask_rows =
    record {
      mask = refl;
      mask-uncounted = refl;
      mask_refused = refl;
      slice = refl;
      slice_refused = refl;
      validity = refl;
      validity-none = refl;
      validity_refused = refl;
      zeros = refl;
      zeros_refused = refl;
      part = refl;
      part-first = refl;
      part_refused = refl;
      builder = refl;
      builder_refused = refl;
    }

cursor_rows : CursorRows
unfolding as_cursor as_step as_word as_bit as_run as_taken as_remainder chunks_out slices_out iter_out true_out
cursor_rows =
    record {
      chunks = refl;
      slices = refl;
      iter = refl;
      true_idx = refl;
      true_idx-absent = refl;
      cursor_refused = refl;
      word = refl;
      word_ended = refl;
      word_refused = refl;
      one = refl;
      flag = refl;
      flag-false = refl;
      flag_ended = refl;
      flag_refused = refl;
      run = refl;
      run_ended = refl;
      run_refused = refl;
      taken = refl;
      taken_refused = refl;
      remainder = refl;
      remainder_refused = refl;
    }

span_rows : SpanRows
unfolding as_split as_spans as_window
span_rows =
    record {
      split = refl;
      split_refused = refl;
      spans = refl;
      spans_refused = refl;
      minutes = refl;
      minutes_refused = refl;
    }

record_rows : RecordRows
unfolding mask_in count_in mask_out optional_in builder_in serial_builder_in builder_out true_in window_in unless_refused
record_rows =
    record {
      mask = refl;
      mask_odd = refl;
      mask-uncounted = refl;
      present = refl;
      absent = refl;
      returned = refl;
      returned-uncounted = refl;
      builder = refl;
      builder-serial = refl;
      builder-returned = refl;
      true_idx = refl;
      true_idx_odd = refl;
      true_idx-absent = refl;
      minutes = refl;
      written = refl;
      unwritten = refl;
    }

pub all_hold : AnswerRows
all_hold =
    record {
      numbers = number_rows;
      masks = mask_rows;
      cursors = cursor_rows;
      spans = span_rows;
      records = record_rows;
    }
