-- Rules of the words that no wrong answer of `WrongAnswers` shows, as a table of rows.
--
-- A row has the value of a definition at one input, its flags as the numbers 0 and 1, and the value of its plain reading there, worked out
-- by hand. `proofs/computed/WordRows.antt` proves that the two columns are equal.
use Rattle.std.specs.Prelude.{ℕ, ◌≡◌, Bool, true, false, List, [], ◌∷◌, map, replicate}
use Rattle.words.specs.Changes.{alternating, changes, without_first}
use Rattle.words.specs.Counts.{any_set, same_flags}
use Rattle.words.specs.Flags.{copies, digit, over_at}
use Rattle.words.specs.Loops.{combined, whole_words}
use Rattle.words.specs.Merge.{merged}
use Rattle.words.specs.Place.{or_at}
use Rattle.words.specs.Short.{lies_near}
use Rattle.words.specs.Uniform.{all_equal, differs_early}
use Rattle.words.specs.declared.ops.Op.TheVariants.{AndNot, Not, Select}

pub record Row : Type 0 where
  pub computed : List ℕ
  pub stated : List ℕ

abbrev pub row : List Bool → List ℕ → Row
row flags stated = record { computed = map digit flags; stated = stated }

-- the flags 1,0,1,1,0,1,0,0 and 1,1,0,1,1,0,0,1
abbrev pub first : List ℕ
first = 0x2D ∷ []

abbrev pub second : List ℕ
second = 0x9B ∷ []

unfoldable pub rows : List Row
rows =
    -- `Not` inverts the first's flags: 1,0,1,1, whatever the second has.
    row (combined Not first 0 second 0 second 0 4) (0 ∷ 1 ∷ 0 ∷ 0 ∷ [])
    -- `Select` takes the second's flag where the first's is set, else the third's. First 1,0,1,1; second, starting at 1, 1,0,1,1; third,
    -- starting at 3, 1,0,1,0.
    ∷ row (combined Select first 0 second 1 first 3 4) (1 ∷ 0 ∷ 1 ∷ 1 ∷ [])
    -- Each stretch begins at a start of its own. First, starting at 2, 1,1,0,1; second, starting at 4, 1,0,0,1.
    ∷ row (combined AndNot first 2 second 4 second 0 4) (0 ∷ 1 ∷ 0 ∷ 0 ∷ [])
    -- Whole words: 64 flags stay 64, one flag becomes 64.
    ∷ row (whole_words (copies 64 true)) (replicate 64 1)
    ∷ row (whole_words (true ∷ [])) (1 ∷ replicate 63 0)
    -- Flags written over others, starting at flag 1: those before and after stay, and what does not fit is left out.
    ∷ row (over_at (copies 4 false) 1 (true ∷ true ∷ [])) (0 ∷ 1 ∷ 1 ∷ 0 ∷ [])
    ∷ row (over_at (copies 2 false) 1 (true ∷ true ∷ [])) (0 ∷ 1 ∷ [])
    -- Flags joined to others, starting at flag 1: those that were set stay, what does not fit is left out, past the end nothing changes.
    ∷ row (or_at (true ∷ false ∷ true ∷ true ∷ false ∷ false ∷ []) 1 (true ∷ true ∷ false ∷ true ∷ []))
    (1 ∷ 1 ∷ 1 ∷ 1 ∷ 1 ∷ 0 ∷ [])
    ∷ row (or_at (copies 2 false) 1 (true ∷ true ∷ [])) (0 ∷ 1 ∷ [])
    ∷ row (or_at (copies 2 false) 2 (true ∷ [])) (0 ∷ 0 ∷ [])
    -- Flags that differ from the one before them: before the first a one, then a zero; of no flags none.
    ∷ row (changes true (true ∷ false ∷ false ∷ true ∷ [])) (0 ∷ 1 ∷ 0 ∷ 1 ∷ [])
    ∷ row (changes false (true ∷ true ∷ false ∷ [])) (1 ∷ 0 ∷ 1 ∷ [])
    ∷ row (changes true []) []
    -- Alternating flags, from a one and from a zero; none.
    ∷ row (alternating 4 true) (1 ∷ 0 ∷ 1 ∷ 0 ∷ [])
    ∷ row (alternating 3 false) (0 ∷ 1 ∷ 0 ∷ [])
    ∷ row (alternating 0 true) []
    -- The first set flag is cleared, the others stay.
    ∷ row (without_first (false ∷ true ∷ true ∷ false ∷ true ∷ [])) (0 ∷ 0 ∷ 1 ∷ 0 ∷ 1 ∷ [])
    ∷ row (without_first (false ∷ false ∷ [])) (0 ∷ 0 ∷ [])
    -- Two words at an offset of their length: the first.
    ∷ row (merged (true ∷ false ∷ []) (false ∷ true ∷ []) 2) (1 ∷ 0 ∷ [])
    -- Lists of different lengths are not the same, in either order.
    ∷ row (same_flags [] (true ∷ []) ∷ same_flags (true ∷ []) [] ∷ same_flags (true ∷ []) (true ∷ []) ∷ []) (0 ∷ 0 ∷ 1 ∷ [])
    -- Whether a flag is set: of no flags, of a zero and a one, of two zeros.
    ∷ row (any_set [] ∷ any_set (false ∷ true ∷ []) ∷ any_set (false ∷ false ∷ []) ∷ []) (0 ∷ 1 ∷ 0 ∷ [])
    -- Whether all flags equal one flag: ones equal to 1, zeros to 0, a one and a zero to 1, the same two to 0.
    ∷ row
    (all_equal true (true ∷ true ∷ []) ∷ all_equal false (false ∷ false ∷ []) ∷ all_equal true (true ∷ false ∷ []) ∷ all_equal false
    (true ∷ false ∷ []) ∷ [])
    (1 ∷ 1 ∷ 0 ∷ 0 ∷ [])
    -- Whether one of the first flags is not set: of fewer than eight bytes no; of eight ones at 4, of four ones, of three ones and a zero.
    ∷ row (differs_early true (0 ∷ []) 0 4 ∷ differs_early true (0xF0 ∷ replicate 7 0xFF) 4 8
    ∷ differs_early true (0x0F ∷ replicate 7 0) 0 4 ∷ differs_early true (0x07 ∷ replicate 7 0) 0 4 ∷ [])
    (0 ∷ 0 ∷ 0 ∷ 1 ∷ [])
    -- Whether flags lie in eight bytes: 64 flags at 0, 57 at 7, not 58; not with seven bytes; one flag at 64 of 16 bytes, not of 15.
    ∷ row
    (lies_near 8 0 64 ∷ lies_near 8 7 57 ∷ lies_near 8 7 58 ∷ lies_near 7 0 1 ∷ lies_near 16 64 1 ∷ lies_near 15 64 1 ∷ [])
    (1 ∷ 1 ∷ 0 ∷ 0 ∷ 1 ∷ 0 ∷ [])
    ∷ []

-- the statement: in every row the value of the definition is that of its plain reading
abbrev pub RowsHold : Type 0
RowsHold = map (λ (r : Row). r.computed) rows ≡ map (λ (r : Row). r.stated) rows
