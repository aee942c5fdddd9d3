-- A run is at most as long as the flags are many (`at_most`). If the checks pass, the start is within the limit (`aligned-allowed`).
use mathlib.Core.Path.{sym}
use native.Mathlib.Omega.{arith}
use Rattle.words.specs.Flags.{flags_of}
use Rattle.words.specs.Loops.{stretch}
use Rattle.words.proofs.flags.Windows.{length-window}
use Rattle.masks.proofs.aligned.SplitLaws.{aligned-allowed}
use Rattle.masks.proofs.utils.run_flags.Goals as goal

pub returns-then-length-eq0-clause-number : goal.returns-then-length-eq0-clause-number
returns-then-length-eq0-clause-number g c =
    let a = c.args in
    let long = length-window (flags_of a.bytes.now) a.start a.length in
    omega (arith, g.met.E.End.at_most a.flag (stretch a.bytes.now a.start a.length), long, c.if-length-eq0.true)

pub overflow_add-start : goal.overflow_add-start
overflow_add-start g c =
    let a = aligned-allowed _ _ _ _ (sym c.in_ok-check_aligned.ensures) in omega (arith, a.0, a.1.0)

pub invariant_of-span : goal.invariant_of-span
invariant_of-span g c =
    let a = aligned-allowed _ _ _ _ (sym c.in_ok-check_aligned.ensures) in
    record { starts = a.0; short = a.1.0; low = a.1.1 }
