-- The rows of `proofs/tables/FullRows.antt`, by computation.
use Rattle.std.proofs.Common.{refl}
use Rattle.words.specs.Flags.{bits, count}
use Rattle.words.specs.Columns.{column, columns_from, column_counts}
use Rattle.activity.specs.Checks.{width_fits, place_fits, inside_fits, numbers_fit, all_zero, same_numbers, words_fit, left_by_minutes}
use Rattle.activity.specs.Window.{zeros, no_minute, minute_on, new_of, push_of, counts_of}
use Rattle.activity.proofs.tables.FullRows.{high_rows, full_rows, number_rows, FullHolds}

pub all_hold : FullHolds
unfolding
    high_rows full_rows number_rows bits count column columns_from column_counts
    width_fits place_fits inside_fits numbers_fit all_zero same_numbers words_fit left_by_minutes zeros no_minute minute_on new_of push_of
    counts_of
all_hold = record { highs = refl; fulls = refl; in_range = refl }
