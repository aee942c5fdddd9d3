-- What the program prints.
use Rattle.std.specs.Prelude.{ℕ, ◌≡◌, List, [], ◌∷◌, None, Some, Ok, Err, codes}
use Rattle.report.specs.Numbers.{report_of}
use Rattle.report.specs.Program.{Outcome, failure_text, text_of}
use Rattle.report.specs.declared.program.Failure.TheVariants.{Input, Output}

pub record ProgramRows : Type 0 where
  -- the byte 0x2D, and no byte
  pub one-byte : text_of (report_of (0x2D ∷ [])) ≡ codes "flags=8\nzeros=4\nedges=5\nruns=3\n"
  pub no_byte : text_of (report_of []) ≡ codes "flags=0\nzeros=0\nedges=0\nruns=0\n"
  -- numbers of several digits, each its own
  pub digits-told : text_of (Some (record { flags = 524288; zeros = 30; edges = 4096; runs = 17 }))
      ≡ codes "flags=524288\nzeros=30\nedges=4096\nruns=17\n"
  -- input that is too long for a report
  pub too_long : text_of None ≡ codes "refused=1\n"
  pub input-fails : failure_text Input ≡ codes "standard input cannot be read"
  pub output-fails : failure_text Output ≡ codes "standard output cannot be written"
  -- a run: to an output that has a byte, the text is added; if the input cannot be read nothing is
  pub printed : (out : List ℕ) → Outcome (Some []) (Some (7 ∷ [])) (Some out) (Ok tt)
      → out ≡ 7 ∷ codes "flags=0\nzeros=0\nedges=0\nruns=0\n"
  pub kept : (out : List ℕ) → Outcome (Some []) (Some (7 ∷ [])) (Some out) (Err Input) → out ≡ 7 ∷ []
