-- The invariant of both loops: the flags from `place` to `first` are zeros, those from there to `at` are ones (`Walking`). A byte of ones
-- (`walk-byte`), a one (`walk-one`) or a zero before the run (`walk-zero`) keeps it; the run ends at a zero after ones (`walk-stop`) or at
-- the span's end (`walk_end`).
use mathlib.Core.Path.{◌≡◌}
use Prim.Native.Nat.{◌+◌, ◌-◌, ◌*◌, ◌/◌, ◌≤◌}
use Rattle.words.specs.Loops.{stretch}
use Rattle.masks.proofs.slice_iterator.RunLaws.{Walking}
use Rattle.masks.proofs.slice_iterator.run_from.Given as goal

abbrev pub invariant-loop-bit : goal.invariant-loop-bit
invariant-loop-bit l =
    Walking (stretch l.span.bytes.now l.span.start l.span.length) l.span.length l.place l.first l.at
    × ((l.span.start + l.at ≡ 8 * (l.flag / 8) + l.bit) × ((l.initial.bit ≤ l.bit) × (l.bit ≤ l.stop)))

abbrev pub decreases-loop-bit : goal.decreases-loop-bit
decreases-loop-bit l = l.stop - l.bit

abbrev pub invariant-bytes : goal.invariant-bytes
invariant-bytes l = Walking (stretch l.span.bytes.now l.span.start l.span.length) l.span.length l.place l.first l.at

abbrev pub decreases-bytes : goal.decreases-bytes
decreases-bytes l = l.span.length - l.at
