-- The calls of run_ends, as rows: both make a mask from a mask.
use Rattle.std.specs.Prelude.{ℕ, ℤ, List, length}
use Rattle.run_ends.specs.equations.Read.{from_run_ends_bytes, from_run_ends_of}
use Rattle.run_ends.specs.equations.Write.{to_run_ends_bytes, to_run_ends_of}
use Rattle.histories.specs.ReferenceList.{run_values, read_runs}
use Rattle.histories.specs.Rows.{Argument, Lent, RowCall, Writes, write, of_one, one}

-- `from_run_ends` of these ends takes the mask as the runs' values, and makes n flags of it
abbrev pub from_run_ends_row : List ℤ → ℕ → List ℕ → Writes
from_run_ends_row ends n out =
    record {
      masks = 1;
      answer = of_one (λ (p : Lent). from_run_ends_of ends p.mask p.bytes n (length out));
      bytes = of_one (λ (p : Lent). from_run_ends_bytes ends p.mask p.bytes n out);
      flags = of_one (read_runs ends n);
    }

-- `to_run_ends` with so many places for ends; its mask is that of the runs' values, and the ends that it writes are no part of the row
abbrev pub to_run_ends_row : ℕ → List ℕ → Writes
to_run_ends_row places out =
    record {
      masks = 1;
      answer = of_one (λ (p : Lent). to_run_ends_of p.mask p.bytes places (length out));
      bytes = of_one (λ (p : Lent). to_run_ends_bytes p.mask p.bytes places out);
      flags = of_one run_values;
    }

-- ---- the table

pub data RunEndCall : Type 0 where
  -- the ends, the length, the output and the mask
  from_run_ends : List ℤ → ℕ → List ℕ → Argument → RunEndCall
  -- the number of places for ends, the output and the mask
  to_run_ends : ℕ → List ℕ → Argument → RunEndCall

abbrev pub run_end_call : RunEndCall → RowCall
run_end_call (from_run_ends ends n out a) = write (from_run_ends_row ends n out) (one a)
run_end_call (to_run_ends places out a) = write (to_run_ends_row places out) (one a)
