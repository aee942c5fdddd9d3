-- The split of no flags is all 0 (`split-none`). If the checks pass, `aligned-allowed` implies what `split` requires.
use Rattle.std.proofs.Common.{rules}
use mathlib.Core.Path.{sym, ◌∙◌}
use Rattle.masks.proofs.aligned.SplitLaws.{aligned-allowed, split-none}
use Rattle.masks.proofs.aligned.AlignedBitmapSlice.new.Goals as goal

pub returns-then-length-eq0-clause-split : goal.returns-then-length-eq0-clause-split
returns-then-length-eq0-clause-split c = search rules ∙ sym (split-none _ _ _ _ c.if-length-eq0.true)

pub invariant_of-span : goal.invariant_of-span
invariant_of-span c =
    let a = aligned-allowed _ _ _ _ (sym c.in_ok-check_aligned.ensures) in
    record { starts = a.0; short = a.1.0; low = a.1.1 }
