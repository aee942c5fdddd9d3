-- The numbers of a report on bytes that are read as eight flags each.
use Rattle.std.specs.Prelude.{ℕ, Bool, cond, List, leb, length, Option, Some, None}
use Rattle.words.specs.Flags.{flags_of}
use Rattle.masks.specs.Compare.{edges}
use Rattle.masks.specs.SliceIterator.{runs_from}
use Rattle.masks.specs.Utils.{zeros}
use Rattle.report.specs.declared.numbers.Numbers.{Numbers}

-- of a list, how many flags, zeros, neighbours that differ, and runs of ones
abbrev pub numbers_of : List Bool → Numbers
numbers_of l = record { flags = length l; zeros = zeros l; edges = edges l; runs = length (runs_from 0 l) }

-- how many bytes a report takes
abbrev pub most : ℕ
most = 65536

-- the report on the bytes; none for more than `most`: this limit is the report's own, and no refusal number belongs to it
unfoldable pub report_of : List ℕ → Option Numbers
report_of bytes = cond (leb (length bytes) most) (Some (numbers_of (flags_of bytes))) None
