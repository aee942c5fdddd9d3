-- Cursors: a span and the next place in it.
use Rattle.std.specs.Prelude.{ℕ, List, [], ◌∷◌, ◌++◌, leb, Option, Some, None}
use Rattle.masks.specs.Checks.{Check, check, span_checks}

-- checks 1, 2 and 6 of a cursor over `size` bytes
unfoldable pub cursor_checks : ℕ → ℕ → ℕ → ℕ → List Check
cursor_checks start n place size = span_checks start n size ++ (check 6 (leb place n) ∷ [])

-- a step of a cursor: an item, and the cursor just past it; or no item, and the cursor as it is then
pub data Step (C A : Type 0) : Type 0 where
  item : A → C → Step C A
  ended : C → Step C A

abbrev pub step_of : {A C : Type 0} → Option A → C → Step C A
step_of (Some a) c = item a c
step_of None c = ended c
