-- The invariant: the output is under way (`UnderWay`), with the positions of what is left of the word. An iteration takes at least one of
-- them and moves by at most 128 flags.
use mathlib.Core.Bool.{true, false}
use mathlib.Core.Path.{refl}
use native.Mathlib.Omega.{arith}
use Rattle.words.specs.Flags.{bits}
use Rattle.words.proofs.flags.Bits.{length-bits}
use Rattle.masks.proofs.true_idx.PositionLaws.{begins, finished, full}
use Rattle.masks.proofs.true_idx.PositionRuns.{no_ones, some-ones, shorter, turned, no_more, lead-within}
use Rattle.masks.proofs.true_idx.positions.write_word.Goals as goal

pub loop-done-init : goal.loop-done-init
loop-done-init c = (begins _ _ _ c.requires.0, omega (arith, no_more c.args.first (bits 64 c.args.word), length-bits 64 c.args.word))

pub returns-then-zeros-ge64 : goal.returns-then-zeros-ge64
returns-then-zeros-ge64 c =
    let u = c.loop-done.invariant.0 in
    let both = finished _ _ _ _ _ _ u (no_ones _ _ _ c.leading_in_word-zeros.ensures c.if-zeros-ge64.true) in
    record { count = both.0; positions = both.1 }

pub write_run-requires : goal.write_run-requires
write_run-requires c =
    let u = c.loop-done.invariant.0 in (
      omega (arith, u.within, c.min-n.ensures),
      omega (
        arith,
        c.loop-done.invariant.1,
        c.requires.1,
        c.min-n.ensures,
        lead-within false _ _ c.leading_in_word-zeros.ensures,
        lead-within true _ _ c.leading_in_word-ones.ensures,
      ),
    )

pub returns-then-n-ones : goal.returns-then-n-ones
returns-then-n-ones c =
    let u = c.loop-done.invariant.0 in
    let v =
    turned _ _ _ _ _ _ _ _ _ _ _ u c.leading_in_word-zeros.ensures c.shr_or_zero-rest.ensures c.leading_in_word-ones.ensures
    _ _ refl c.min-n.ensures c.write_run.ensures in
    let both = full _ _ _ _ _ _ v (omega (arith, v.same_length, u.same_length, u.within, c.min-n.ensures, c.if-n-ones.true)) in
    record { count = both.0; positions = both.1 }

pub loop-done-smaller : goal.loop-done-smaller
loop-done-smaller c =
    omega (
      arith,
      shorter _ _ _ _ _ _ _ _ _ _ 0 c.loop-done.invariant.0 c.leading_in_word-zeros.ensures c.shr_or_zero-rest.ensures
          c.leading_in_word-ones.ensures
          _ c.shr_or_zero-w.ensures,
      some-ones _ _ _ _ c.leading_in_word-zeros.ensures c.if-zeros-ge64.false c.shr_or_zero-rest.ensures c.leading_in_word-ones.ensures,
    )

pub loop-done-preserved : goal.loop-done-preserved
loop-done-preserved c =
    let u = c.loop-done.invariant.0 in (
      turned _ _ _ _ _ _ _ _ _ _ _ u c.leading_in_word-zeros.ensures c.shr_or_zero-rest.ensures c.leading_in_word-ones.ensures
          _ _ c.shr_or_zero-w.ensures c.min-n.ensures c.write_run.ensures,
      omega (
        arith,
        c.loop-done.invariant.1,
        shorter _ _ _ _ _ _ _ _ _ _ 0 u c.leading_in_word-zeros.ensures c.shr_or_zero-rest.ensures c.leading_in_word-ones.ensures _
            c.shr_or_zero-w.ensures,
        some-ones _ _ _ _ c.leading_in_word-zeros.ensures c.if-zeros-ge64.false c.shr_or_zero-rest.ensures c.leading_in_word-ones.ensures,
        lead-within false _ _ c.leading_in_word-zeros.ensures,
        lead-within true _ _ c.leading_in_word-ones.ensures,
      ),
    )
