-- Wrong answers that the contract of `report` rules out.
--
-- A row as in `WrongAnswers` of words: the definition at one input, its value there, and two answers of a faulty call.
use Rattle.std.specs.Prelude.{ℕ, [], ◌∷◌, Some}
use Rattle.words.proofs.tables.WrongAnswers.{Tried}
use Rattle.report.specs.Numbers.{report_of}
use Rattle.report.specs.declared.numbers.Numbers.{Numbers}

abbrev pub four_of : ℕ → ℕ → ℕ → ℕ → Numbers
four_of flags zeros edges runs = record { flags = flags; zeros = zeros; edges = edges; runs = runs }

pub record WrongAnswers : Type 0 where
  -- `report` of the flags 1,0,1,1,0,0,0,0
  pub one_byte : Tried (report_of (0x0D ∷ []))
      (Some (four_of 8 5 3 2))
      -- ones counted as zeros
      (Some (four_of 8 3 3 2))
      -- runs counted as edges
      (Some (four_of 8 5 2 2))
