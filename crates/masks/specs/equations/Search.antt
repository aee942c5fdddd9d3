-- The calls of `Search` as one equation each: their answers by their checks.
use Rattle.std.specs.Prelude.{ℕ, List, length, Option}
use Rattle.words.specs.Loops.{stretch}
use Rattle.masks.specs.equations.Answer.{Answer, checked}
use Rattle.masks.specs.Checks.{span_checks}
use Rattle.masks.specs.Search.{nth_from, nth_back}

unfoldable pub search_from : List ℕ → ℕ → ℕ → ℕ → ℕ → Answer (Unit {0}) (Option ℕ)
search_from bytes start size n from = checked (span_checks start size (length bytes)) tt (nth_from (stretch bytes start size) n from)

unfoldable pub search_back : List ℕ → ℕ → ℕ → ℕ → ℕ → Answer (Unit {0}) (Option ℕ)
search_back bytes start size n end = checked (span_checks start size (length bytes)) tt (nth_back (stretch bytes start size) n end)
