-- The statements of `proofs/statements/SerialPlain.antt`: an accepted call returns the record of its definition.
use Rattle.std.proofs.Common.{ap}
use Rattle.masks.specs.Mask.{written_mask}
use Rattle.masks.specs.declared.bitmap.Bitmap.{Bitmap}
use Rattle.masks.proofs.theorems.WrittenLaws.{accepted}
use Rattle.run_ends.specs.Read.{read_checks}
use Rattle.run_ends.specs.Write.{run_count, write_checks}
use Rattle.run_ends.specs.equations.Read.{from_run_ends_of}
use Rattle.run_ends.specs.equations.Write.{to_run_ends_of}
use Rattle.run_ends.proofs.statements.SerialPlain.{SerialsPlainly}

pub serials_plainly : SerialsPlainly
unfolding from_run_ends_of to_run_ends_of
serials_plainly =
    record {
      read = λ ends m bytes n size s e.
          ap (λ (x : Bitmap). x.serial) (accepted (read_checks ends m bytes n size) tt (written_mask m n) s e).1;
      write = λ m bytes places size v e.
          ap (λ (x : Bitmap). x.serial) (accepted (write_checks m bytes places size) tt (written_mask m (run_count m bytes)) v e).1;
    }
