use Rattle.std.proofs.Common.{◌≡◌, drop}
use Rattle.run_ends.specs.Rules.{ends_of, rising_to}
use Rattle.run_ends.proofs.rules.ends_hold.Given as goal

abbrev pub invariant-loop-end : goal.invariant-loop-end
invariant-loop-end l = rising_to l.n l.last (ends_of (drop l.end-index l.ends)) ≡ rising_to l.n 0 (ends_of l.ends)
