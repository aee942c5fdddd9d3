-- The twelve proved examples of the reference (`proofs/tables/Examples.antt`), all at once and by computation.
use mathlib.Core.Path.{refl}
use mathlib.Core.Bool.{xor}
use Rattle.words.specs.Counts.{any_set}
use Rattle.words.specs.Ends.{leading}
use Rattle.words.specs.Flags.{bits, copies, count, flags_of, over, window, word_of}
use Rattle.words.specs.Nth.{nth_place}
use Rattle.words.specs.Ops.{zip3}
use Rattle.masks.specs.equations.Answer.{decided, kept}
use Rattle.masks.specs.Appends.{all_below, constant_checks, gather_checks, gathered, repeated, span_grow_checks}
use Rattle.masks.specs.Builder.{appended, builder_checks, builder_flags, in_progress, possible}
use Rattle.masks.specs.Checks.{earlier, first_failed, rank, place_in, output_checks, span_checks}
use Rattle.masks.specs.Combine.{largest_serial, pair_checks, pair_flags, select_checks, shortcut}
use Rattle.masks.specs.equations.Combine.{each_bytes, each_of, pair_bytes, pair_of}
use Rattle.masks.specs.Compare.{edges}
use Rattle.masks.specs.equations.Compare.{edges_of}
use Rattle.masks.specs.Cursor.{cursor_checks}
use Rattle.masks.proofs.tables.Examples.{examples, ExamplesHold}
use Rattle.masks.specs.Freeze.{frozen_over}
use Rattle.masks.specs.Frozen.{frozen, over_from, packed}
use Rattle.masks.specs.Iterator.{leading_from}
use Rattle.masks.proofs.statements.Listing.{listing}
use Rattle.masks.specs.Mask.{cut_zeros, kept_count, mask_checks, piece_checks, recounts, slice_checks}
use Rattle.masks.specs.equations.Mask.{slice_of, try_new_of, unset_bits_of}
use Rattle.masks.specs.Mask.{zero_count}
use Rattle.masks.specs.Search.{nth_back, nth_from}
use Rattle.masks.specs.equations.Search.{search_back, search_from}
use Rattle.masks.specs.SliceIterator.{run_start, slice_step}
use Rattle.masks.specs.equations.SliceIterator.{new_slices, next_slice}
use Rattle.masks.specs.Utils.{zeros}

pub all_hold : ExamplesHold
unfolding
    examples
    bits word_of flags_of count copies window over any_set leading nth_place zip3 xor
    first_failed earlier rank place_in span_checks output_checks decided kept
    mask_checks try_new_of unset_bits_of zero_count zeros slice_of slice_checks piece_checks cut_zeros recounts kept_count
    packed frozen over_from in_progress appended builder_flags possible builder_checks
    constant_checks span_grow_checks gather_checks all_below gathered repeated frozen_over
    pair_of pair_bytes pair_checks pair_flags shortcut each_of each_bytes largest_serial select_checks
    edges_of edges search_from search_back nth_from nth_back
    new_slices next_slice cursor_checks slice_step run_start leading_from listing
all_hold = refl
