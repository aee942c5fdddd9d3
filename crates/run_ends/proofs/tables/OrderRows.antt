-- Which number a call on run ends refuses with if two checks fail: rows as in `OrderRows` of masks, for 13 with each number that can fail
-- beside it, and for the length stated, whose 1 comes before what is checked of the values.
use Rattle.std.specs.Prelude.{◌≡◌, pos, List, [], ◌∷◌, map, None}
use Rattle.masks.specs.Mask.{mask_of}
use Rattle.masks.proofs.tables.OrderRows.{Both, both, miscounted, past}
use Rattle.masks.proofs.tables.Witnesses.{too_long, whole}
use Rattle.run_ends.proofs.tables.Witnesses.{broken, eight, read_number, write_number}

unfoldable pub order_rows : List Both
order_rows =
    both 1 13 (read_number broken whole too_long 8)
    ∷ both 1 2 (read_number eight past too_long 8)
    ∷ both 1 3 (read_number eight miscounted too_long 8)
    ∷ both 1 9 (read_number (pos too_long ∷ []) (mask_of 0 1 None) too_long 0)
    ∷ both 2 13 (read_number broken past 8 8)
    ∷ both 13 3 (read_number broken miscounted 8 8)
    -- fewer ends than values, whose count is false
    ∷ both 13 3 (read_number (pos 8 ∷ []) miscounted 8 8)
    ∷ both 13 9 (read_number broken whole 8 0)
    ∷ both 3 9 (read_number eight miscounted 8 0)
    -- both outputs too short
    ∷ both 3 9 (write_number miscounted 0 0)
    ∷ both 2 9 (write_number past 0 0)
    ∷ both 1 9 (write_number (mask_of too_long 1 None) 0 0)
    ∷ []

-- the statement: in every row the call refuses with the first of the two numbers
abbrev pub OrderHolds : Type 0
OrderHolds = map (λ (r : Both). r.computed) order_rows ≡ map (λ (r : Both). r.first) order_rows
