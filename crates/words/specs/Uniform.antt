-- Whether all flags of a list equal one flag.
use Rattle.std.specs.Prelude.{ℕ, ◌+◌, ◌-◌, ◌*◌, ◌/◌, ◌%◌, min, Bool, not, ◌&&◌, List, eqb, leb, length}
use Rattle.words.specs.Flags.{count, digit}
use Rattle.words.specs.Loops.{stretch}

-- whether x equals every flag of l, by their count: none of them is set if x is 0, all are if x is 1
unfoldable pub all_equal : Bool → List Bool → Bool
all_equal x l = eqb (count l) (length l * digit x)

-- whether one of the n flags at `start`, in the eight bytes from the first one's byte on, is not x; false if `bytes` ends before these do
unfoldable pub differs_early : Bool → List ℕ → ℕ → ℕ → Bool
differs_early x bytes start n = leb (start / 8 + 8) (length bytes) && not (all_equal x (stretch bytes start (min n (64 - start % 8))))
