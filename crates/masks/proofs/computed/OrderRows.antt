-- The rows of `proofs/tables/OrderRows.antt`, all at once and by computation.
use mathlib.Core.Path.{refl}
use mathlib.Core.Bool.{xor}
use Rattle.words.specs.Counts.{any_set, same_flags}
use Rattle.words.specs.Flags.{bits, count, flags_of, window}
use Rattle.masks.specs.Aligned.{aligned_checks}
use Rattle.masks.specs.equations.Aligned.{aligned_of}
use Rattle.masks.specs.equations.Answer.{decided, unless_empty}
use Rattle.masks.specs.Appends.{all_below, word_checks, constant_checks, span_grow_checks, inner_checks, subslice_checks, gather_checks}
use Rattle.masks.specs.AtIndex.{and_not_at_checks, index_checks, length_checks}
use Rattle.masks.specs.equations.AtIndex.{and_not_at_of}
use Rattle.masks.specs.Bitmask.{split_checks}
use Rattle.masks.specs.equations.Bitmask.{window_at}
use Rattle.masks.specs.equations.Bitmask.{split_at}
use Rattle.masks.specs.Builder.{builder_checks, possible}
use Rattle.masks.specs.Checks.{earlier, first_failed, rank, place_in, span_checks, address_checks, output_checks}
use Rattle.masks.specs.Combine.{pair_checks, not_checks, select_checks}
use Rattle.masks.specs.equations.Combine.{pair_of, each_of}
use Rattle.masks.specs.Compare.{common_checks}
use Rattle.masks.specs.equations.Compare.{edges_of, common_of}
use Rattle.masks.specs.Mask.{cut_zeros, recounts, mask_checks, zeroed_checks, piece_checks, slice_checks}
use Rattle.masks.specs.equations.Mask.{new_zeroed_of, unset_bits_of}
use Rattle.masks.specs.equations.Mask.{slice_of}
use Rattle.masks.proofs.tables.OrderRows.{order_rows, OrderHolds}
use Rattle.masks.specs.Superseding.{superseding_checks}
use Rattle.masks.specs.equations.Superseding.{superseding_of}
use Rattle.masks.specs.TrueIdx.{new_true_checks, true_checks}
use Rattle.masks.specs.equations.TrueIdx.{new_true, next_true}
use Rattle.masks.specs.Utils.{zeros}
use Rattle.masks.specs.equations.Utils.{span_count}

pub all_hold : OrderHolds
unfolding
    order_rows decided unless_empty first_failed earlier rank place_in bits count flags_of window any_set zeros cut_zeros recounts possible
    all_below span_checks address_checks output_checks aligned_checks split_checks builder_checks word_checks constant_checks
    span_grow_checks inner_checks subslice_checks gather_checks
    mask_checks zeroed_checks piece_checks slice_checks pair_checks not_checks select_checks common_checks new_true_checks true_checks
    aligned_of span_count split_at window_at
    new_zeroed_of slice_of unset_bits_of pair_of each_of edges_of common_of and_not_at_of and_not_at_checks index_checks length_checks
    superseding_of superseding_checks same_flags xor
    new_true next_true
all_hold = refl
