-- The invariant: the first c counts are exchanged, and the others unchanged.
use Rattle.std.proofs.Common.{ℕ, ◌≡◌, ◌≤◌, length, get_or}
use Rattle.activity.specs.Workers.{Exchanged}
use Rattle.activity.proofs.exchange.exchange_half.Given as goal

abbrev pub invariant-loop-c : goal.invariant-loop-c
invariant-loop-c l = (length l.counts ≡ 32) × Exchanged l.fn.counts l.s l.old l.new l.counts l.c
    × ((k : ℕ) → l.c ≤ k → get_or l.counts k 0 ≡ get_or l.fn.counts k 0)
