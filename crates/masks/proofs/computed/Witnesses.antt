-- For each number by which a call may refuse, an input at which it comes out, by computation.
use mathlib.Core.Path.{refl}
use mathlib.Core.Bool.{xor}
use Rattle.words.specs.Counts.{any_set, same_flags}
use Rattle.words.specs.Flags.{bits, count, flags_of, window}
use Rattle.masks.specs.Aligned.{aligned_checks}
use Rattle.masks.specs.equations.Aligned.{aligned_of}
use Rattle.masks.specs.equations.Answer.{decided, unless_empty}
use Rattle.masks.specs.Appends.{all_below, word_checks, constant_checks, span_grow_checks, inner_checks, subslice_checks, gather_checks}
use Rattle.masks.specs.AtIndex.{and_not_at_checks, index_checks, length_checks}
use Rattle.masks.specs.equations.AtIndex.{and_not_at_of}
use Rattle.masks.specs.NextAndNot.{next_checks, other_checks}
use Rattle.masks.specs.equations.NextAndNot.{next_and_not_of}
use Rattle.masks.specs.Bitmask.{split_checks}
use Rattle.masks.specs.equations.Bitmask.{window_at}
use Rattle.masks.specs.equations.Bitmask.{split_at}
use Rattle.masks.specs.Builder.{builder_checks, possible}
use Rattle.masks.specs.Checks.{earlier, first_failed, rank, place_in, span_checks, address_checks, output_checks}
use Rattle.masks.specs.equations.Chunks.{new_chunks, next_chunk, chunks_remainder}
use Rattle.masks.specs.Combine.{pair_checks, not_checks, select_checks}
use Rattle.masks.specs.equations.Combine.{pair_of, each_of}
use Rattle.masks.specs.Compare.{common_checks}
use Rattle.masks.specs.equations.Compare.{eq_of, edges_of, common_of}
use Rattle.masks.specs.Cursor.{cursor_checks}
use Rattle.masks.specs.equations.Iterator.{new_iter, nth_flag, take_leading}
use Rattle.masks.specs.Mask.{cut_zeros, recounts, mask_checks, zeroed_checks, piece_checks, slice_checks}
use Rattle.masks.specs.equations.Mask.{try_new_of, new_zeroed_of}
use Rattle.masks.specs.equations.Mask.{unset_bits_of, slice_of}
use Rattle.masks.specs.equations.Positions.{next_positions}
use Rattle.masks.proofs.statements.Refusals.{addressed, spans, cursors, unmasked_cursors, splits, builders, pushed-words, span-appends}
use Rattle.masks.proofs.statements.Refusals.{gathers}
use Rattle.masks.proofs.statements.Refusals.{piece-appends, zeroed-masks, masks, slices, combinations, inversions, intersections}
use Rattle.masks.proofs.statements.Refusals.{indexed-pairs}
use Rattle.masks.proofs.statements.Refusals.{indexed-masks, stated-masks, stated_lengths, supersessions}
use Rattle.masks.specs.equations.Search.{search_from, search_back}
use Rattle.masks.specs.equations.SliceIterator.{new_slices, next_slice}
use Rattle.masks.specs.Superseding.{superseding_checks}
use Rattle.masks.specs.equations.Superseding.{superseding_of}
use Rattle.masks.specs.TrueIdx.{new_true_checks, true_checks}
use Rattle.masks.specs.equations.TrueIdx.{new_true, next_true}
use Rattle.masks.specs.Utils.{zeros}
use Rattle.masks.specs.equations.Utils.{span_count}
use Rattle.masks.proofs.tables.Witnesses.{witnesses, Witnessed}

pub witnessed : Witnessed
unfolding
    witnesses decided unless_empty first_failed earlier rank place_in bits count flags_of window any_set zeros cut_zeros recounts possible
    all_below span_checks address_checks output_checks aligned_checks cursor_checks split_checks builder_checks word_checks constant_checks
    span_grow_checks inner_checks subslice_checks gather_checks
    mask_checks zeroed_checks piece_checks slice_checks pair_checks not_checks select_checks common_checks new_true_checks true_checks
    aligned_of span_count new_chunks next_chunk chunks_remainder split_at window_at search_from search_back
    new_zeroed_of try_new_of slice_of unset_bits_of pair_of each_of eq_of edges_of common_of and_not_at_of and_not_at_checks index_checks
    length_checks next_and_not_of next_checks other_checks superseding_of superseding_checks same_flags xor
    new_slices next_slice new_iter nth_flag take_leading new_true next_true next_positions
witnessed addressed = refl
witnessed spans = refl
witnessed cursors = refl
witnessed unmasked_cursors = refl
witnessed splits = refl
witnessed builders = refl
witnessed pushed-words = refl
witnessed span-appends = refl
witnessed gathers = refl
witnessed piece-appends = refl
witnessed zeroed-masks = refl
witnessed masks = refl
witnessed slices = refl
witnessed combinations = refl
witnessed inversions = refl
witnessed intersections = refl
witnessed indexed-pairs = refl
witnessed indexed-masks = refl
witnessed stated-masks = refl
witnessed stated_lengths = refl
witnessed supersessions = refl
