-- The rows of `proofs/tables/EdgeRows.antt`, by computation.
use mathlib.Core.Path.{refl}
use mathlib.Core.Bool.{xor}
use Rattle.words.specs.Counts.{any_set}
use Rattle.words.specs.Flags.{bits, copies, count, flags_of, over, window, word_of}
use Rattle.words.specs.Ops.{zip3}
use Rattle.masks.specs.Aligned.{aligned_checks, bulk_offset, bulk_start_of, prefix_length}
use Rattle.masks.specs.equations.Aligned.{aligned_of}
use Rattle.masks.specs.equations.Answer.{decided, kept, unless_empty}
use Rattle.masks.specs.Appends.{all_below, constant_checks, gather_checks, gathered, inner_checks, repeated, span_grow_checks}
use Rattle.masks.specs.Appends.{subslice_checks, word_checks}
use Rattle.masks.specs.AtIndex.{and_not_at_checks, index_checks, length_checks}
use Rattle.masks.specs.equations.AtIndex.{and_not_at_of}
use Rattle.masks.specs.Bitmask.{split_checks}
use Rattle.masks.specs.equations.Bitmask.{window_at}
use Rattle.masks.specs.equations.Bitmask.{split_at}
use Rattle.masks.specs.Builder.{appended, builder_checks, builder_flags, in_progress, possible}
use Rattle.masks.specs.Checks.{address_checks, earlier, first_failed, rank, place_in, output_checks, span_checks}
use Rattle.masks.specs.equations.Chunks.{chunks_remainder, next_chunk}
use Rattle.masks.specs.Combine.{not_checks, pair_checks, pair_flags, pair_mask, select_checks}
use Rattle.masks.specs.equations.Combine.{each_bytes, each_of, pair_bytes, pair_of}
use Rattle.masks.specs.Combine.{shortcut}
use Rattle.masks.specs.Compare.{common_checks}
use Rattle.masks.specs.equations.Compare.{common_of, eq_of}
use Rattle.masks.specs.Cursor.{cursor_checks}
use Rattle.masks.proofs.tables.EdgeRows.{EdgesHold, limit_rows, edge_rows, mask_rows, unwritten_rows, split_rows, start_rows, count_rows}
use Rattle.masks.specs.Freeze.{frozen_over}
use Rattle.masks.specs.Frozen.{frozen, over_from, packed}
use Rattle.masks.specs.equations.Iterator.{new_iter, nth_flag, take_leading}
use Rattle.masks.specs.Mask.{cut_zeros, kept_count, mask_checks, piece_checks, recounts, slice_checks}
use Rattle.masks.specs.equations.Mask.{new_zeroed_bytes, new_zeroed_of}
use Rattle.masks.specs.Mask.{zero_count, zeroed_checks}
use Rattle.masks.specs.equations.Mask.{slice_of, try_new_of, unset_bits_of}
use Rattle.masks.specs.equations.Positions.{positions_over}
use Rattle.masks.specs.equations.SliceIterator.{new_slices, next_slice}
use Rattle.masks.specs.TrueIdx.{new_true_checks, ones_from, ones_left, true_checks, true_flags}
use Rattle.masks.specs.equations.TrueIdx.{new_true, next_true}
use Rattle.masks.specs.Utils.{zeros}
use Rattle.masks.specs.equations.Utils.{span_count}

pub all_hold : EdgesHold
unfolding
    limit_rows edge_rows mask_rows unwritten_rows split_rows start_rows count_rows
    bits word_of flags_of count copies window over any_set zip3 xor
    first_failed earlier rank place_in span_checks address_checks output_checks decided kept unless_empty
    aligned_of aligned_checks prefix_length bulk_start_of bulk_offset span_count split_at split_checks window_at next_chunk chunks_remainder
    cursor_checks mask_checks try_new_of unset_bits_of new_zeroed_of new_zeroed_bytes zeroed_checks zeros zero_count slice_of slice_checks
    piece_checks cut_zeros recounts kept_count packed frozen over_from in_progress appended builder_flags possible builder_checks
    frozen_over constant_checks word_checks span_grow_checks inner_checks subslice_checks gather_checks all_below gathered repeated
    pair_of pair_bytes pair_checks pair_flags pair_mask shortcut each_of each_bytes not_checks select_checks eq_of common_of common_checks
    and_not_at_of and_not_at_checks index_checks length_checks new_iter nth_flag take_leading new_slices next_slice
    new_true new_true_checks next_true true_checks true_flags positions_over ones_left ones_from
all_hold = record { limits = refl; edges = refl; masks = refl; unwritten = refl; splits = refl; starts = refl; counts = refl }
