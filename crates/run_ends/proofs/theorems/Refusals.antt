-- The number of a call on run ends is 0 or one of those listed for it.
use Rattle.std.proofs.Common.{refl}
use Rattle.masks.specs.Checks.{output_checks, span_checks}
use Rattle.masks.specs.Mask.{mask_checks}
use Rattle.masks.proofs.statements.Refusals.{among, all_among, numbers}
use Rattle.masks.proofs.theorems.Refusals.{fails-by}
use Rattle.run_ends.specs.Read.{read_checks}
use Rattle.run_ends.specs.Write.{write_checks}
use Rattle.run_ends.proofs.statements.Refusals.{Refusals}

pub refusals : Refusals
unfolding numbers all_among among span_checks output_checks mask_checks read_checks write_checks
refusals =
    record {
      read = λ ends m bytes n size. fails-by _ (read_checks ends m bytes n size) refl;
      write = λ m bytes places size. fails-by _ (write_checks m bytes places size) refl;
    }
