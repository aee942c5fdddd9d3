-- The rows of `proofs/tables/StartRows.antt`, all at once and by computation.
use mathlib.Core.Path.{refl}
use Rattle.words.specs.Ends.{leading}
use Rattle.words.specs.Flags.{bits, copies, count, flags_of, over, window, word_of}
use Rattle.words.specs.Nth.{nth_place}
use Rattle.masks.specs.equations.Answer.{decided, kept}
use Rattle.masks.specs.Bitmask.{split_checks, window_word}
use Rattle.masks.specs.equations.Bitmask.{window_at}
use Rattle.masks.specs.equations.Bitmask.{split_at}
use Rattle.masks.specs.Checks.{earlier, first_failed, rank, place_in, span_checks}
use Rattle.masks.specs.Chunks.{chunk_step, chunk_word, remainder_word}
use Rattle.masks.specs.equations.Chunks.{chunks_remainder, next_chunk}
use Rattle.masks.specs.Cursor.{cursor_checks}
use Rattle.masks.specs.Iterator.{flag_step, leading_from}
use Rattle.masks.specs.equations.Iterator.{nth_flag, take_leading}
use Rattle.masks.specs.Mask.{cut_zeros, kept_count, mask_checks, piece_checks, recounts, slice_checks}
use Rattle.masks.specs.equations.Mask.{slice_of}
use Rattle.masks.specs.Positions.{place_after}
use Rattle.masks.specs.equations.Positions.{next_positions, positions_over}
use Rattle.masks.specs.Search.{nth_back, nth_from}
use Rattle.masks.specs.equations.Search.{search_back, search_from}
use Rattle.masks.specs.SliceIterator.{run_start, slice_step}
use Rattle.masks.specs.equations.SliceIterator.{new_slices, next_slice}
use Rattle.masks.proofs.tables.StartRows.{start_rows, StartsHold}
use Rattle.masks.specs.TrueIdx.{first_true, new_true_checks, ones_from, ones_left, true_checks, true_flags, true_step}
use Rattle.masks.specs.equations.TrueIdx.{new_true, next_true}
use Rattle.masks.specs.Utils.{zeros}

pub all_hold : StartsHold
unfolding
    start_rows bits word_of flags_of count copies window over leading nth_place zeros decided kept
    first_failed earlier rank place_in span_checks cursor_checks mask_checks slice_of slice_checks piece_checks cut_zeros recounts
    kept_count split_checks split_at window_at window_word next_chunk chunk_step chunk_word chunks_remainder remainder_word search_from
    search_back nth_from nth_back nth_flag flag_step take_leading leading_from new_slices next_slice run_start slice_step
    new_true new_true_checks first_true next_true true_checks true_flags true_step ones_from ones_left next_positions place_after
    positions_over
all_hold = refl
