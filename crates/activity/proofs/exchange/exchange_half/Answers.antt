-- An iteration exchanges one more count (`exchanged-more`) by the flags of both words (`mask-digit`).
use Rattle.std.proofs.Common.{◌≡◌, ◌+◌, ◌<◌, refl, get_or, length, length-set, ◌∙◌, arith}
use Rattle.words.specs.Planes.{digit_of}
use Rattle.words.proofs.columns.PlaneReads.{digit_few, mask-digit}
use Rattle.activity.specs.Workers.{Holds, Exchanged}
use Rattle.activity.proofs.window.WindowLaws.{exchanged-more, rest-stays}
use Rattle.activity.proofs.exchange.exchange_half.Goals as goal

pub loop-c-init : goal.loop-c-init
unfolding Exchanged
loop-c-init c = (c.requires.0, λ k h. absurd (omega arith), λ k h. refl)

pub moved-requires : goal.moved-requires
unfolding Holds
moved-requires c =
    let i = c.loop-c.c in
    let p : i < 32 = omega (arith, c.loop-c-test.true, c.requires.0) in
    let e : c.digit_by-in-loop-c.result ≡ digit_of c.args.old (c.args.s + i) =
    mask-digit _ _ _ _ _ _ c.requires.2 p (c.requires.1 _ p) c.half_of-minus.ensures c.digit_by-in-loop-c.ensures in
    let r : get_or c.loop-c.counts i 0 ≡ get_or c.args.counts.now i 0 = c.loop-c.invariant.2 i (omega arith) in
    let h = c.requires.3 i p in
    (omega (arith, h.0), omega (arith, h.1), digit_few _ _ c.digit_by.ensures)

pub loop-c-preserved : goal.loop-c-preserved
loop-c-preserved c =
    let p : c.loop-c.c < 32 = omega (arith, c.loop-c-test.true, c.requires.0) in
    let m = c.requires.1 _ p in
    let e = mask-digit _ _ _ _ _ _ c.requires.2 p m c.half_of-minus.ensures c.digit_by-in-loop-c.ensures in
    let f = mask-digit _ _ _ _ _ _ c.requires.2 p m c.half_of-plus.ensures c.digit_by.ensures in
    let inv = c.loop-c.invariant in
    let q : c.loop-c.c < length c.loop-c.counts = omega (arith, inv.0) in (
      length-set _ _ _ ∙ inv.0,
      exchanged-more _ _ _ _ _ _ _ _ _ q e f c.moved.ensures inv.2 inv.1,
      rest-stays _ _ c.args.s c.args.old c.args.new _ _ _ _ q e f c.moved.ensures inv.2,
    )
