use Rattle.std.proofs.Common.{ℕ, ◌+◌, ◌-◌, get_or}
use Rattle.grids.specs.Workers.{Renewed}
use Rattle.grids.proofs.column_zeros.write_zeros.Given as goal

abbrev pub invariant-loop-c : goal.invariant-loop-c
invariant-loop-c l =
    Renewed (λ (p : ℕ). l.rows - get_or l.ones (p - l.column) 0) l.column (l.column + l.c) l.initial.counts l.counts
