-- The rows of `proofs/tables/HighRows.antt`, by computation.
use Rattle.words.specs.Place.{or_at, or_over}
use Rattle.std.proofs.Common.{refl}
use Rattle.std.proofs.Math.Bool.{xor}
use Rattle.words.specs.Columns.{column, columns_from, column_counts}
use Rattle.words.specs.Counts.{any_set, same_flags}
use Rattle.words.specs.Ends.{leading, trailing}
use Rattle.words.specs.Flags.{bits, copies, count, flags_of, over, over_at, window, word_of}
use Rattle.words.specs.Loops.{whole_words}
use Rattle.words.specs.Merge.{merged}
use Rattle.words.specs.Nth.{nth_one, nth_place}
use Rattle.words.specs.Ops.{zip3}
use Rattle.words.specs.Uniform.{all_equal, differs_early}
use Rattle.words.proofs.tables.HighRows.{column_rows, word_rows, long_rows, HighHolds}

pub all_hold : HighHolds
unfolding
    column_rows word_rows long_rows bits word_of flags_of copies window over over_at count column columns_from column_counts
    any_set same_flags leading trailing whole_words merged nth_one nth_place zip3 all_equal differs_early xor or_at or_over
all_hold = record { columns = refl; words = refl; longs = refl }
