-- The statements of `proofs/statements/CountPlain.antt`: what is written is not counted.
use Rattle.masks.proofs.theorems.WrittenLaws.{uncounted-plain}
use Rattle.run_ends.specs.Read.{read_checks}
use Rattle.run_ends.specs.Write.{run_count, write_checks}
use Rattle.run_ends.specs.equations.Read.{from_run_ends_of}
use Rattle.run_ends.specs.equations.Write.{to_run_ends_of}
use Rattle.run_ends.proofs.statements.CountPlain.{CountsPlainly}

pub counts_plainly : CountsPlainly
unfolding from_run_ends_of to_run_ends_of
counts_plainly =
    record {
      read = λ ends m bytes n size. uncounted-plain (read_checks ends m bytes n size) m n;
      write = λ m bytes places size. uncounted-plain (write_checks m bytes places size) m (run_count m bytes);
    }
