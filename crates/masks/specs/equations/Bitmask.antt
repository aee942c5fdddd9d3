-- The calls of `Bitmask` as one equation each: their answers by their checks.
use Rattle.std.specs.Prelude.{ℕ, List, length}
use Rattle.masks.specs.equations.Answer.{Answer, checked}
use Rattle.masks.specs.declared.bitmask.Span.{Span}
use Rattle.masks.specs.Bitmask.{split_checks, parts_at}
use Rattle.masks.specs.Checks.{span_checks}
use Rattle.masks.specs.Bitmask.{window_word}

unfoldable pub split_at : List ℕ → ℕ → ℕ → ℕ → Answer (Unit {0}) (Span × Span)
split_at bytes start n at = checked (split_checks start n at (length bytes)) tt (parts_at start n at)

-- the answer of `get_u32`: checks 1 and 2, and the window
unfoldable pub window_at : List ℕ → ℕ → ℕ → ℕ → Answer (Unit {0}) ℕ
window_at bytes start n index = checked (span_checks start n (length bytes)) tt (window_word bytes start n index)
