use Rattle.std.proofs.Common.{◌≡◌, ℕ, ◌+◌, ◌<◌, ◌≤◌, get_or}
use Rattle.grids.proofs.column_zeros.add_counts.Given as goal

abbrev pub invariant-loop-c : goal.invariant-loop-c
invariant-loop-c l =
    ((k : ℕ) → k < l.c → get_or l.ones k 0 ≡ get_or l.initial.ones k 0 + get_or l.part k 0)
    × ((k : ℕ) → l.c ≤ k → get_or l.ones k 0 ≡ get_or l.initial.ones k 0)
