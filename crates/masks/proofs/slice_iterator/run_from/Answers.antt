-- The invariant of both loops: the flags from `place` to `first` are zeros, those from there to `at` are ones (`Walking`). A byte of ones
-- (`walk-byte`), a one (`walk-one`) or a zero before the run (`walk-zero`) keeps it; the run ends at a zero after ones (`walk-stop`) or at
-- the span's end (`walk_end`).
use mathlib.Core.Path.{refl}
use native.Mathlib.Omega.{arith}
use Rattle.masks.proofs.slice_iterator.RunLaws.{walk-byte, walk-stop, walk-zero, walk-one, walk_end}
use borrow.Author.Rules.{rules}
use Rattle.masks.proofs.slice_iterator.run_from.Goals.{then-byte-bit-eq0+else-ones-gt0, else-byte-bit-eq0}
use Rattle.masks.proofs.slice_iterator.run_from.Goals as goal

pub bytes-preserved-then-is_full_byte : goal.bytes-preserved-then-is_full_byte
bytes-preserved-then-is_full_byte c = walk-byte _ _ _ _ _ _ c.bytes.invariant _ _ c.is_full_byte.ensures c.if-is_full_byte.true refl

pub loop-bit-preserved : goal.loop-bit-preserved
loop-bit-preserved c =
    let inv = c.loop-bit.invariant in
    elim c.if-byte-bit-eq0.branch [
      | then-byte-bit-eq0+else-ones-gt0 w ↦ rw w.first-is (
        walk-zero _ _ _ _ _ _ inv.0 _ _ _ (search rules) inv.1.0 (search rules) refl w.if-byte-bit-eq0.true w.if-ones-gt0.false,
        (omega arith, (omega arith, omega arith)),
      )
      | else-byte-bit-eq0 w ↦ rw w.first-is (
        walk-one _ _ _ _ _ _ inv.0 _ _ _ (search rules) inv.1.0 (search rules) refl w.if-byte-bit-eq0.false,
        (omega arith, (omega arith, omega arith)),
      )
    ]

pub returns-then-at-span : goal.returns-then-at-span
returns-then-at-span c = walk_end _ _ _ _ _ _ c.bytes.invariant c.if-at-span.true

pub returns-then-ones-gt0 : goal.returns-then-ones-gt0
returns-then-ones-gt0 c =
    let inv = c.loop-bit.invariant in
    walk-stop _ _ _ _ _ _ inv.0 _ _ _ (search rules) inv.1.0 (search rules) refl c.if-byte-bit-eq0.true c.if-ones-gt0.true
