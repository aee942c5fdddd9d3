-- The rows of `proofs/tables/WordRows.antt`, all at once and by computation.
use Rattle.words.specs.Place.{or_at, or_over}
use Rattle.std.proofs.Common.{refl}
use Rattle.std.proofs.Math.Bool.{xor}
use Rattle.words.specs.Changes.{alternating, changes, without_first}
use Rattle.words.specs.Counts.{any_set, same_flags}
use Rattle.words.specs.Flags.{bits, copies, count, flags_of, over, over_at, window}
use Rattle.words.specs.Loops.{whole_words}
use Rattle.words.specs.Merge.{merged}
use Rattle.words.specs.Ops.{zip3}
use Rattle.words.specs.Short.{lies_near}
use Rattle.words.specs.Uniform.{all_equal, differs_early}
use Rattle.words.proofs.tables.WordRows.{rows, RowsHold}

pub all_hold : RowsHold
unfolding rows bits flags_of copies window over over_at whole_words zip3 merged same_flags any_set all_equal differs_early lies_near count
    xor or_at or_over alternating changes without_first
all_hold = refl
