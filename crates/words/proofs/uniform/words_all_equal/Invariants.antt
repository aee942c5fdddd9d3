-- The invariant: all flags of the first i words are `flag`. A block with another ends the loop (`all-exit`), one without is passed over
-- (`all_more`).
use Rattle.std.proofs.Common.{◌≡◌, true, ◌≤◌, ◌*◌, ◌-◌}
use Rattle.words.specs.Flags.{flags_of, window}
use Rattle.words.specs.Uniform.{all_equal}
use Rattle.words.proofs.uniform.words_all_equal.Given as goal

abbrev pub invariant-loop-i : goal.invariant-loop-i
invariant-loop-i l = (l.i ≤ l.n) × (true ≡ all_equal l.flag (window (flags_of l.words.bytes.now) (8 * l.words.at) (64 * l.i)))

abbrev pub decreases-loop-i : goal.decreases-loop-i
decreases-loop-i l = l.n - l.i
