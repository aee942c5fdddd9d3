-- The set flag number n of a list, counted up from a place, and counted down from below an end.
use Rattle.std.specs.Prelude.{ℕ, ◌+◌, ◌-◌, Bool, cond, List, ltb, take, drop, Option, Some, None}
use Rattle.words.specs.Flags.{count}
use Rattle.words.specs.Nth.{nth_place}

-- the position of the n-th set flag at or after `from`, counted from 0; none if at most n are set there
unfoldable pub nth_from : List Bool → ℕ → ℕ → Option ℕ
nth_from l n from = cond (ltb n (count (drop from l))) (Some (from + nth_place (drop from l) n)) None

-- the position of the n-th set flag counted down from below `end`: of c set flags before it, the one numbered c - 1 - n
unfoldable pub nth_back : List Bool → ℕ → ℕ → Option ℕ
nth_back l n end = cond (ltb n (count (take end l))) (Some (nth_place (take end l) (count (take end l) - 1 - n))) None
