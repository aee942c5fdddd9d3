-- The rows of `proofs/tables/LargeRows.antt`, by computation.
use mathlib.Core.Path.{refl}
use Rattle.words.specs.Counts.{any_set}
use Rattle.words.specs.Flags.{bits, copies, count, flags_of, window}
use Rattle.masks.specs.Aligned.{aligned_checks}
use Rattle.masks.specs.equations.Aligned.{aligned_of}
use Rattle.masks.specs.equations.Answer.{decided, unless_empty}
use Rattle.masks.specs.Appends.{all_below, constant_checks, gather_checks, inner_checks, span_grow_checks, subslice_checks, word_checks}
use Rattle.masks.specs.AtIndex.{and_not_at_checks, index_checks, length_checks}
use Rattle.masks.specs.equations.AtIndex.{and_not_at_of}
use Rattle.masks.specs.Bitmask.{split_checks}
use Rattle.masks.specs.equations.Bitmask.{window_at}
use Rattle.masks.specs.equations.Bitmask.{split_at}
use Rattle.masks.specs.Builder.{builder_checks, possible}
use Rattle.masks.specs.Checks.{address_checks, earlier, first_failed, rank, place_in, output_checks, span_checks}
use Rattle.masks.specs.equations.Chunks.{chunks_remainder, new_chunks, next_chunk}
use Rattle.masks.specs.Combine.{not_checks, pair_checks}
use Rattle.masks.specs.equations.Combine.{each_of, pair_of}
use Rattle.masks.specs.equations.Compare.{edges_of}
use Rattle.masks.specs.Cursor.{cursor_checks}
use Rattle.masks.specs.equations.Iterator.{new_iter, nth_flag, take_leading}
use Rattle.masks.specs.Mask.{cut_zeros, mask_checks, piece_checks, recounts, slice_checks}
use Rattle.masks.specs.equations.Mask.{new_zeroed_of, slice_of, try_new_of}
use Rattle.masks.specs.Mask.{zeroed_checks}
use Rattle.masks.specs.equations.Mask.{unset_bits_of}
use Rattle.masks.specs.NextAndNot.{next_checks, other_checks}
use Rattle.masks.specs.equations.NextAndNot.{next_and_not_of}
use Rattle.masks.specs.equations.Positions.{next_positions}
use Rattle.masks.specs.equations.Search.{search_back, search_from}
use Rattle.masks.specs.equations.SliceIterator.{new_slices, next_slice}
use Rattle.masks.specs.TrueIdx.{new_true_checks, true_checks}
use Rattle.masks.specs.equations.TrueIdx.{new_true, next_true}
use Rattle.masks.specs.Utils.{zeros}
use Rattle.masks.specs.equations.Utils.{span_count}
use Rattle.masks.proofs.tables.LargeRows.{span_rows, other_rows, LargeHolds}

pub all_hold : LargeHolds
unfolding
    span_rows other_rows bits flags_of count copies window any_set zeros
    first_failed earlier rank place_in span_checks address_checks output_checks decided unless_empty
    aligned_of aligned_checks span_count split_at split_checks window_at search_from search_back new_chunks next_chunk chunks_remainder
    cursor_checks new_iter nth_flag take_leading new_slices next_slice new_true new_true_checks next_true true_checks next_positions
    mask_checks try_new_of new_zeroed_of zeroed_checks unset_bits_of edges_of slice_of slice_checks piece_checks cut_zeros recounts
    each_of not_checks pair_of pair_checks and_not_at_of and_not_at_checks index_checks length_checks next_and_not_of next_checks
    other_checks builder_checks possible constant_checks word_checks span_grow_checks inner_checks subslice_checks gather_checks all_below
all_hold = record { spans = refl; others = refl }
