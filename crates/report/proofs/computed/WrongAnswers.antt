-- The wrong answers of `proofs/tables/WrongAnswers.antt` are ruled out, by computation.
use mathlib.Core.Path.{refl}
use mathlib.Core.Bool.{xor}
use mathlib.Core.List.{[], ◌∷◌}
use Rattle.words.specs.Flags.{bits, count, flags_of}
use Rattle.masks.proofs.computed.WrongAnswers.{same_code, tried, Code, option}
use Rattle.masks.specs.Compare.{edges}
use Rattle.masks.specs.SliceIterator.{runs_from, with_one}
use Rattle.masks.specs.Utils.{zeros}
use Rattle.report.specs.Numbers.{report_of}
use Rattle.report.proofs.tables.WrongAnswers.{WrongAnswers}
use Rattle.report.specs.declared.numbers.Numbers.{Numbers}

abbrev numbers_code : Code Numbers
numbers_code n = n.flags ∷ n.zeros ∷ n.edges ∷ n.runs ∷ []

pub ruled_out : WrongAnswers
unfolding same_code bits count flags_of zeros edges xor runs_from with_one report_of
ruled_out = record { one_byte = tried (option numbers_code) refl refl refl }
