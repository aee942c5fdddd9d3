-- What the program prints on the bytes that it reads, and how it ends.
use Rattle.std.specs.Prelude.{ℕ, List, ◌++◌, Option, Some, None, Result, Ok, Err, IfSome, codes, decimal}
use Rattle.std.specs.Io.KnownBytes.{Appends, Keeps}
use Rattle.report.specs.Numbers.{report_of}
use Rattle.report.specs.declared.numbers.Numbers.{Numbers}
use Rattle.report.specs.declared.program.Failure.{Failure}
use Rattle.report.specs.declared.program.Failure.TheVariants.{Input, Output}

-- a line of a report: a key, "=", a decimal, a line feed
abbrev pub line : List ℕ → ℕ → List ℕ
line key n = key ++ (codes "=" ++ (decimal n ++ codes "\n"))

-- the four lines of a report
abbrev pub lines_of : Numbers → List ℕ
lines_of n =
    line (codes "flags") n.flags ++ (line (codes "zeros") n.zeros ++ (line (codes "edges") n.edges ++ line (codes "runs") n.runs))

-- what is printed of a report; of input that is too long for one the line `refused=1`
abbrev pub text_of : Option Numbers → List ℕ
text_of (Some n) = lines_of n
text_of None = codes "refused=1\n"

abbrev pub failure_text : Failure → List ℕ
failure_text Input = codes "standard input cannot be read"
failure_text Output = codes "standard output cannot be written"

-- How a run ends, by the bytes of its input and those of its output before and after, where these are known: the text of the report on all
-- bytes of the input is printed, nothing is printed since the input cannot be read, or the output cannot be written.
abbrev pub Outcome : Option (List ℕ) → Option (List ℕ) → Option (List ℕ) → Result (Unit {0}) Failure → Type 0
Outcome input old new (Ok u) = IfSome input (λ bytes. Appends old new (text_of (report_of bytes)))
Outcome input old new (Err Input) = Keeps old new
Outcome input old new (Err Output) = Unit {0}
