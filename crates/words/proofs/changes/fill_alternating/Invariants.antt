-- The invariant: the first i words are written.
use Rattle.std.proofs.Common.{◌≡◌, ◌*◌, length}
use Rattle.words.specs.Changes.{alternating}
use Rattle.words.specs.Flags.{flags_of, over, window}
use Rattle.words.proofs.changes.fill_alternating.Given as goal

abbrev pub invariant-loop-i : goal.invariant-loop-i
invariant-loop-i l =
    (length l.out ≡ length l.initial.out)
    × (flags_of l.out ≡ over (flags_of l.initial.out) (window (alternating l.len l.first) 0 (64 * l.i)))
