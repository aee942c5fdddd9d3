-- The calls of `Utils` as one equation each: their answers by their checks.
use Rattle.std.specs.Prelude.{ℕ, List, length}
use Rattle.masks.specs.Aligned.{aligned_checks}
use Rattle.masks.specs.equations.Answer.{Answer, given, checked, unless_empty}

-- the answer of a count over a span of n flags at an address: 0 before any check if there are none, else the value after checks 1, 2 and 8
unfoldable pub span_count : List ℕ → ℕ → ℕ → ℕ → ℕ → Answer (Unit {0}) ℕ
span_count bytes start n address value =
    unless_empty n (given 0) (checked (aligned_checks start n (length bytes) address) tt value)
