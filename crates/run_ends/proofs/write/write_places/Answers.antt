-- The invariant: the output is under way (`UnderWay`), with the set flags of what is left of the word. The next of them is the law
-- `next-place`; without one all are written.
use Rattle.std.proofs.Common.{refl, ap, arith, length}
use Rattle.run_ends.proofs.write.EndPlaces.{finished, next-place, no-place, one-on, some-place}
use Rattle.run_ends.proofs.write.write_places.Goals as goal

pub loop-w-init : goal.loop-w-init
loop-w-init c = (record { filled = refl; room = c.requires.0 }, (refl, c.ranges.word.fits))

pub overflow_add-first : goal.overflow_add-first
overflow_add-first c =
    let n = some-place c.args.first c.loop-w.w _ (omega arith) c.loop-w.invariant.1.1 c.leading_in_word-place.ensures in
    omega (arith, n.0, c.requires.1)

pub write_end-requires : goal.write_end-requires
write_end-requires c =
    let n = some-place c.args.first c.loop-w.w _ (omega arith) c.loop-w.invariant.1.1 c.leading_in_word-place.ensures in
    (omega (arith, n.1, c.loop-w.invariant.0.room), omega (arith, n.0, c.requires.1))

pub loop-w-smaller : goal.loop-w-smaller
loop-w-smaller c =
    let n =
    next-place c.args.first c.loop-w.w _ _ (omega arith) c.loop-w.invariant.1.1 c.leading_in_word-place.ensures
    c.without_first-w.ensures in
    omega (arith, ap length n.0)

pub loop-w-preserved : goal.loop-w-preserved
loop-w-preserved c =
    let n =
    next-place c.args.first c.loop-w.w _ _ (omega arith) c.loop-w.invariant.1.1 c.leading_in_word-place.ensures
    c.without_first-w.ensures in (
      one-on _ _ _ _ _ _ _ c.loop-w.invariant.0 n.0 c.write_end.ensures,
      (omega (arith, ap length n.0, c.loop-w.invariant.1.0), c.without_first-w.type_inv),
    )

pub returns : goal.returns
returns c =
    let none = no-place c.args.first c.loop-w.w (omega arith) in
    record {
      count = omega (arith, ap length none, c.loop-w.invariant.1.0);
      ends = finished _ _ _ _ c.loop-w.invariant.0 none;
    }
