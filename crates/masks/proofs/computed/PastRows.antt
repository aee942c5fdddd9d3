-- The rows of `proofs/tables/PastRows.antt`, by computation.
use mathlib.Core.Path.{refl}
use mathlib.Core.Bool.{xor}
use Rattle.words.specs.Counts.{any_set, same_flags}
use Rattle.words.specs.Ends.{leading}
use Rattle.words.specs.Flags.{bits, copies, count, flags_of, over, window, word_of}
use Rattle.words.specs.Nth.{nth_place}
use Rattle.words.specs.Ops.{zip3}
use Rattle.masks.specs.equations.Answer.{decided, kept}
use Rattle.masks.specs.Appends.{gathered, inner_checks, repeated, span_grow_checks, subslice_checks}
use Rattle.masks.specs.AtIndex.{and_not_at_checks, and_not_flag, flag_or, index_checks, length_checks}
use Rattle.masks.specs.equations.AtIndex.{and_not_at_of}
use Rattle.masks.specs.Bitmask.{split_checks, window_word}
use Rattle.masks.specs.equations.Bitmask.{window_at}
use Rattle.masks.specs.equations.Bitmask.{split_at}
use Rattle.masks.specs.Builder.{appended, builder_checks, in_progress, possible}
use Rattle.masks.specs.Checks.{earlier, first_failed, rank, place_in, output_checks, span_checks}
use Rattle.masks.specs.Chunks.{chunk_step, chunk_word, remainder_word}
use Rattle.masks.specs.equations.Chunks.{chunks_remainder, next_chunk}
use Rattle.masks.specs.Combine.{largest_serial, pair_checks, pair_flags, pair_mask, select_checks, shortcut}
use Rattle.masks.specs.equations.Combine.{each_of, pair_of}
use Rattle.masks.specs.Cursor.{cursor_checks}
use Rattle.masks.specs.Iterator.{flag_step, leading_from}
use Rattle.masks.specs.equations.Iterator.{nth_flag, take_leading}
use Rattle.masks.specs.Mask.{cut_zeros, kept_count, mask_checks, piece_checks, recounts, slice_checks, zero_count}
use Rattle.masks.specs.equations.Mask.{slice_of, unset_bits_of}
use Rattle.masks.specs.NextAndNot.{free_flags, going_round, next_checks, next_set, other_checks}
use Rattle.masks.specs.equations.NextAndNot.{next_and_not_of}
use Rattle.masks.specs.Positions.{place_after}
use Rattle.masks.specs.equations.Positions.{next_positions, positions_over}
use Rattle.masks.specs.Search.{nth_back, nth_from}
use Rattle.masks.specs.equations.Search.{search_back, search_from}
use Rattle.masks.specs.SliceIterator.{run_start, slice_step}
use Rattle.masks.specs.equations.SliceIterator.{next_slice}
use Rattle.masks.specs.Superseding.{superseding_checks}
use Rattle.masks.specs.equations.Superseding.{superseding_of}
use Rattle.masks.specs.TrueIdx.{ones_from, ones_left, true_checks, true_flags, true_step}
use Rattle.masks.specs.equations.TrueIdx.{next_true}
use Rattle.masks.specs.Utils.{zeros}
use Rattle.masks.proofs.tables.PastRows.{past_rows, serial_rows, PastHolds}

pub all_hold : PastHolds
unfolding
    past_rows serial_rows bits word_of flags_of count copies window over leading nth_place any_set same_flags xor zip3 zeros
    decided kept first_failed earlier rank place_in span_checks output_checks cursor_checks mask_checks
    split_checks split_at window_at window_word next_chunk chunk_step chunk_word chunks_remainder remainder_word search_from
    search_back nth_from nth_back nth_flag flag_step take_leading leading_from next_slice run_start slice_step
    next_true true_checks true_flags true_step ones_from ones_left next_positions place_after positions_over
    slice_of slice_checks piece_checks cut_zeros recounts kept_count unset_bits_of zero_count
    builder_checks possible in_progress appended span_grow_checks inner_checks subslice_checks gathered repeated
    and_not_at_of and_not_at_checks index_checks length_checks and_not_flag flag_or
    next_and_not_of next_checks other_checks free_flags next_set going_round
    pair_of pair_checks pair_mask pair_flags shortcut each_of largest_serial select_checks superseding_of superseding_checks
all_hold = record { pasts = refl; serials = refl }
