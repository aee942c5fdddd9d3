-- The invariant: the first i flags are appended, each repeated. One more is the law `runs-step`, with the room of `runs-room`.
use mathlib.Core.Path.{◌≡◌}
use Rattle.words.specs.Loops.{stretch}
use Rattle.masks.specs.Appends.{repeated}
use Rattle.masks.specs.Builder.{filling, appended}
use Rattle.masks.proofs.builder.repeat.append_runs.Given as goal

abbrev pub invariant-loop-i : goal.invariant-loop-i
invariant-loop-i l =
    filling l.grown l.buf ≡ appended (filling l.initial.grown l.initial.buf)
    (repeated l.repeats (stretch l.span.bytes.now l.span.start l.i))
