-- The rows of `proofs/tables/FaultRows.antt`, by computation.
use mathlib.Core.Path.{refl}
use mathlib.Core.Bool.{xor}
use Rattle.words.specs.Counts.{any_set, same_flags}
use Rattle.words.specs.Flags.{bits, count, flags_of, window}
use Rattle.masks.specs.equations.Answer.{decided, kept}
use Rattle.masks.specs.Appends.{inner_checks, subslice_checks}
use Rattle.masks.specs.AtIndex.{and_not_at_checks, index_checks, length_checks}
use Rattle.masks.specs.equations.AtIndex.{and_not_at_of}
use Rattle.masks.specs.Builder.{builder_checks, possible}
use Rattle.masks.specs.Checks.{earlier, first_failed, rank, place_in, output_checks, span_checks}
use Rattle.masks.specs.Combine.{not_checks, pair_checks, select_checks}
use Rattle.masks.specs.equations.Combine.{each_bytes, each_of, pair_bytes, pair_of}
use Rattle.masks.specs.Compare.{common_checks}
use Rattle.masks.specs.equations.Compare.{common_of, edges_of, eq_of}
use Rattle.masks.specs.Mask.{mask_checks}
use Rattle.masks.specs.equations.Mask.{unset_bits_of}
use Rattle.masks.specs.NextAndNot.{next_checks, other_checks}
use Rattle.masks.specs.equations.NextAndNot.{next_and_not_of}
use Rattle.masks.specs.equations.SliceIterator.{new_slices}
use Rattle.masks.specs.Superseding.{superseding_checks}
use Rattle.masks.specs.equations.Superseding.{superseding_of}
use Rattle.masks.specs.TrueIdx.{new_true_checks}
use Rattle.masks.specs.equations.TrueIdx.{new_true}
use Rattle.masks.specs.Utils.{zeros}
use Rattle.masks.proofs.tables.FaultRows.{pair_rows, length_rows, mask_rows, FaultsHold}

pub all_hold : FaultsHold
unfolding
    pair_rows length_rows mask_rows bits count flags_of window any_set same_flags xor zeros
    decided kept first_failed earlier rank place_in span_checks output_checks mask_checks
    builder_checks possible inner_checks subslice_checks unset_bits_of edges_of new_slices new_true new_true_checks
    eq_of common_of common_checks and_not_at_of and_not_at_checks index_checks length_checks next_and_not_of next_checks other_checks
    pair_of pair_bytes pair_checks each_of each_bytes not_checks select_checks superseding_of superseding_checks
all_hold = record { pairs = refl; lengths = refl; masks = refl }
