-- The rows of `proofs/tables/FarRows.antt`, by computation.
use mathlib.Core.Path.{refl}
use mathlib.Core.Bool.{xor}
use mathlib.Core.List.{zip_with}
use Rattle.words.specs.Counts.{any_set, same_flags}
use Rattle.words.specs.Ends.{leading}
use Rattle.words.specs.Flags.{bits, copies, count, flags_of, over, window, word_of}
use Rattle.words.specs.Nth.{nth_place}
use Rattle.words.specs.Ops.{zip3}
use Rattle.masks.specs.equations.Answer.{decided, kept, unless_empty}
use Rattle.masks.specs.Appends.{all_below, gather_checks, gathered, inner_checks, span_grow_checks, subslice_checks, word_checks}
use Rattle.masks.specs.AtIndex.{and_not_at_checks, and_not_flag, flag_or, index_checks, length_checks}
use Rattle.masks.specs.equations.AtIndex.{and_not_at_of}
use Rattle.masks.specs.Bitmask.{split_checks, window_word}
use Rattle.masks.specs.equations.Bitmask.{window_at}
use Rattle.masks.specs.equations.Bitmask.{split_at}
use Rattle.masks.specs.Builder.{appended, builder_checks, in_progress, possible}
use Rattle.masks.specs.Checks.{earlier, first_failed, rank, place_in, output_checks, span_checks}
use Rattle.masks.specs.Chunks.{chunk_step, chunk_word, remainder_word}
use Rattle.masks.specs.equations.Chunks.{chunks_remainder, new_chunks, next_chunk}
use Rattle.masks.specs.Combine.{not_checks, pair_checks, pair_flags, shortcut}
use Rattle.masks.specs.equations.Combine.{each_bytes, pair_bytes}
use Rattle.masks.specs.Compare.{common_checks, edges}
use Rattle.masks.specs.equations.Compare.{common_of, edges_of}
use Rattle.masks.specs.Cursor.{cursor_checks}
use Rattle.masks.specs.Frozen.{frozen, packed}
use Rattle.masks.specs.Iterator.{flag_step, leading_from}
use Rattle.masks.specs.equations.Iterator.{new_iter, nth_flag, take_leading}
use Rattle.masks.specs.Mask.{cut_zeros, kept_count, mask_checks, piece_checks, recounts, slice_checks}
use Rattle.masks.specs.equations.Mask.{slice_of, try_new_of, unset_bits_of}
use Rattle.masks.specs.Mask.{zero_count}
use Rattle.masks.specs.NextAndNot.{free_flags, going_round, next_checks, next_set, other_checks}
use Rattle.masks.specs.equations.NextAndNot.{next_and_not_of}
use Rattle.masks.specs.Positions.{place_after}
use Rattle.masks.specs.equations.Positions.{next_positions, positions_over}
use Rattle.masks.specs.Search.{nth_back, nth_from}
use Rattle.masks.specs.equations.Search.{search_back, search_from}
use Rattle.masks.specs.SliceIterator.{run_start, slice_step}
use Rattle.masks.specs.equations.SliceIterator.{new_slices, next_slice}
use Rattle.masks.specs.Superseding.{superseding_checks}
use Rattle.masks.specs.equations.Superseding.{superseding_of}
use Rattle.masks.specs.TrueIdx.{first_true, new_true_checks, ones_from, ones_left, true_checks, true_flags, true_step}
use Rattle.masks.specs.equations.TrueIdx.{new_true, next_true}
use Rattle.masks.specs.Utils.{zeros}
use Rattle.masks.proofs.tables.FarRows.{far_rows, part_rows, FarHolds}

pub all_hold : FarHolds
unfolding
    far_rows part_rows bits word_of flags_of count copies window over leading nth_place any_set same_flags xor zip3 zeros
    decided kept unless_empty first_failed earlier rank place_in span_checks output_checks cursor_checks mask_checks
    split_checks split_at window_at window_word new_chunks next_chunk chunk_step chunk_word chunks_remainder remainder_word
    search_from search_back nth_from nth_back new_iter nth_flag flag_step take_leading leading_from new_slices next_slice run_start
    slice_step new_true new_true_checks first_true next_true true_checks true_flags true_step ones_from ones_left
    next_positions place_after positions_over try_new_of slice_of slice_checks piece_checks cut_zeros recounts kept_count unset_bits_of
    zero_count edges edges_of common_of common_checks builder_checks possible in_progress appended word_checks span_grow_checks
    inner_checks subslice_checks gather_checks all_below gathered and_not_at_of and_not_at_checks index_checks length_checks and_not_flag
    flag_or next_and_not_of next_checks other_checks free_flags next_set going_round packed frozen
    pair_bytes pair_checks pair_flags shortcut each_bytes not_checks superseding_of superseding_checks zip_with
all_hold = record { fars = refl; parts = refl }
