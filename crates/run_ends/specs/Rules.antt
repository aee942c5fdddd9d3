-- The ends of runs, numbers of 32 bits with a sign: the positions that they stand for, and the rules on them.
use Rattle.std.specs.Prelude.{ℕ, ℤ, pos, negsuc, Bool, ◌&&◌, List, [], ◌∷◌, length, map, nat_le, nat_lt, eqb}

-- the position at which a run ends; 0, at which none does, for an end below 0
abbrev pub end_of : ℤ → ℕ
end_of (pos n) = n
end_of (negsuc n) = 0

abbrev pub ends_of : List ℤ → List ℕ
ends_of ends = map end_of ends

-- whether numbers rise, the first of them from above `last` on, and the last one is at least n
unfoldable pub rising_to : ℕ → ℕ → List ℕ → Bool
rising_to n last [] = nat_le n last
rising_to n last (e ∷ es) = nat_lt last e && rising_to n e es

-- the rules on ends: each is above 0 and above the one before it, and the last one is at least n; with no ends, n is 0
unfoldable pub ends_hold : ℕ → List ℤ → Bool
ends_hold n ends = rising_to n 0 (ends_of ends)

-- check 13: the ends of a list of n flags hold, and there are as many as values
abbrev pub runs_hold : ℕ → List ℤ → ℕ → Bool
runs_hold n ends values = ends_hold n ends && eqb (length ends) values
