-- The invariant: no flag searched is set from the place up to `at`. A block without a set flag keeps it (`passed-block`).
use native.Mathlib.Omega.{arith}
use Rattle.masks.proofs.next_and_not.NextAndNotLaws.{free-length, passed-block}
use Rattle.masks.proofs.next_and_not.pass_blocks.Goals as goal

pub loop-at-preserved : goal.loop-at-preserved
loop-at-preserved c =
    let pre = c.requires in
    passed-block _ _ _ _ _ 1024 (free-length _ _ _ _ pre.beside) pre.inside c.loop-at.invariant (omega arith)
    _ c.any_free.ensures c.if-any_free.false
