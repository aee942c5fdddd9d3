-- The rows of `proofs/tables/ProgramRows.antt`, by computation.
use mathlib.Core.Path.{refl}
use mathlib.Core.Bool.{xor}
use Rattle.std.specs.Fmt.{digits}
use Rattle.words.specs.Flags.{bits, count, flags_of}
use Rattle.masks.specs.Compare.{edges}
use Rattle.masks.specs.SliceIterator.{runs_from, with_one}
use Rattle.masks.specs.Utils.{zeros}
use Rattle.report.specs.Numbers.{report_of}
use Rattle.report.proofs.tables.ProgramRows.{ProgramRows}

pub rows : ProgramRows
unfolding digits bits count flags_of zeros edges xor runs_from with_one report_of
rows =
    record {
      one-byte = refl;
      no_byte = refl;
      digits-told = refl;
      too_long = refl;
      input-fails = refl;
      output-fails = refl;
      printed = λ out h. h;
      kept = λ out h. h;
    }
