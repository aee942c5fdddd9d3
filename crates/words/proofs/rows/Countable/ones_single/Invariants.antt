-- The invariant: `ones` counts i words. One more is the law `count-step`; a count is at most the flags counted, so the sum fits.
use Rattle.std.proofs.Common.{◌*◌, ◌≡◌}
use Rattle.words.specs.Flags.{flags_of, window, count}
use Rattle.words.proofs.rows.Countable.ones_single.Given as goal

abbrev pub invariant-loop-i : goal.invariant-loop-i
invariant-loop-i l =
    l.ones ≡ count (window (window (flags_of l.self.words.bytes.now) (8 * l.self.words.at) (64 * l.self.words.n)) 0 (64 * l.i))
