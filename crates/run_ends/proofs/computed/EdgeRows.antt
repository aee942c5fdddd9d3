-- The rows of `tables/EdgeRows.antt`, by computation.
use mathlib.Core.Path.{refl}
use Rattle.words.specs.Flags.{bits, count, flags_of, over, window, word_of}
use Rattle.run_ends.specs.equations.Write.{to_run_ends_bytes, to_run_ends_ends, to_run_ends_of}
use Rattle.run_ends.specs.Write.{ends_from, run_flags, write_checks}
use Rattle.run_ends.specs.equations.Read.{from_run_ends_bytes, from_run_ends_of}
use Rattle.run_ends.specs.Rules.{ends_hold, rising_to}
use Rattle.run_ends.specs.Read.{flags_from, read_checks}
use Rattle.masks.specs.equations.Answer.{decided, kept}
use Rattle.masks.specs.Utils.{zeros}
use Rattle.masks.specs.Mask.{mask_checks}
use Rattle.masks.specs.Frozen.{frozen, packed}
use Rattle.masks.specs.Checks.{earlier, first_failed, output_checks, place_in, rank, span_checks}
use Rattle.run_ends.proofs.tables.EdgeRows.{EdgesHold, edge_rows}

pub all_hold : EdgesHold
unfolding edge_rows earlier first_failed output_checks place_in rank span_checks frozen packed mask_checks zeros decided kept flags_from
    read_checks ends_hold rising_to from_run_ends_bytes from_run_ends_of bits count flags_of over window word_of
    ends_from run_flags write_checks to_run_ends_bytes to_run_ends_ends to_run_ends_of
all_hold = record { edges = refl }
