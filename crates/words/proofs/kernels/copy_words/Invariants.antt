-- The invariant: i words are written and counted. One more is the laws `write_step` and `count-step`, of the word by `span-word`.
use Rattle.std.proofs.Common.{◌≡◌, ◌*◌}
use Rattle.words.specs.Flags.{count, flags_of, over, window}
use Rattle.words.proofs.kernels.copy_words.Given as goal

abbrev pub invariant-loop-i : goal.invariant-loop-i
invariant-loop-i g l =
    (l.ones ≡ count (window (window (flags_of (g.L.Lane.source l.lane)) (g.L.Lane.start l.lane) (64 * l.n)) 0 (64 * l.i)))
    × (flags_of l.out ≡ over (flags_of l.initial.out)
    (window (window (flags_of (g.L.Lane.source l.lane)) (g.L.Lane.start l.lane) (64 * l.n)) 0 (64 * l.i)))
