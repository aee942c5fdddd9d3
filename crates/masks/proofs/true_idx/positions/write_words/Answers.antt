-- The invariant: the output is under way (`UnderWay`), with the positions at or after `at`. One more word is the law `word-on`.
use mathlib.Core.Path.{refl}
use native.Mathlib.Omega.{arith}
use Rattle.masks.proofs.true_idx.PositionLaws.{begins, finished, full}
use Rattle.masks.proofs.true_idx.PositionRuns.{word-on, none-after}
use Rattle.masks.proofs.true_idx.positions.write_words.Goals as goal

pub loop-at-init : goal.loop-at-init
loop-at-init c = (c.requires, begins _ _ _ (omega arith))

pub returns-then-count-out : goal.returns-then-count-out
returns-then-count-out c =
    let all = full _ _ _ _ _ _ c.loop-at.invariant.1 c.if-count-out.true in
    record { count = omega (arith, all.0); positions = all.1 }

pub write_word-count-requires : goal.write_word-count-requires
write_word-count-requires c = (c.loop-at.invariant.1.within, omega (arith, c.loop-at.invariant.0))

pub loop-at-smaller : goal.loop-at-smaller
loop-at-smaller c = omega (arith, c.min-k.ensures, c.loop-at-test.true)

pub loop-at-preserved : goal.loop-at-preserved
loop-at-preserved c =
    let wrote = c.write_word-count.ensures in (
      omega (arith, c.min-k.ensures, c.loop-at.invariant.0),
      word-on _ _ _ _ _ _ _ _ _ c.loop-at.invariant.1 _ _ (omega (arith, c.min-k.ensures, c.loop-at.invariant.0))
          (omega (arith, c.min-k.ensures))
          c.flags_word.ensures _ _ wrote.positions wrote.count _ refl,
    )

pub returns : goal.returns
returns c =
    let all = finished _ _ _ _ _ _ c.loop-at.invariant.1 (none-after _ _ _ _ c.loop-at-test.false) in
    record { count = omega (arith, all.0); positions = all.1 }
