-- The rows of `tables/OrderRows.antt`, all at once and by computation.
use mathlib.Core.Path.{refl}
use Rattle.words.specs.Flags.{bits, count, flags_of, window}
use Rattle.run_ends.specs.equations.Write.{to_run_ends_of}
use Rattle.run_ends.specs.Write.{run_flags, write_checks}
use Rattle.run_ends.specs.equations.Read.{from_run_ends_of}
use Rattle.run_ends.specs.Rules.{ends_hold, rising_to}
use Rattle.run_ends.specs.Read.{read_checks}
use Rattle.masks.specs.equations.Answer.{decided}
use Rattle.masks.specs.Utils.{zeros}
use Rattle.masks.specs.Mask.{mask_checks}
use Rattle.masks.specs.Checks.{earlier, first_failed, output_checks, place_in, rank, span_checks}
use Rattle.run_ends.proofs.tables.OrderRows.{OrderHolds, order_rows}

pub all_hold : OrderHolds
unfolding order_rows earlier first_failed output_checks place_in rank span_checks mask_checks zeros decided read_checks ends_hold rising_to
    from_run_ends_of bits count flags_of window run_flags write_checks to_run_ends_of
all_hold = refl
