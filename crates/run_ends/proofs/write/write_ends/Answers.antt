-- Of no flags there is no end (`none-written`). Else the output is under way (`UnderWay`): before the first word (`begun`), after one more
-- (`word-on`), and in the last word, after which only the end of the list is left (`last-on`, `last-written`).
use Rattle.std.proofs.Common.{arith, ◌/◌}
use Rattle.run_ends.proofs.write.EndsWritten.{begun, last-on, last-room, last-written, none-written, passed, word-on, word-room}
use Rattle.run_ends.proofs.write.write_ends.Goals as goal

pub returns-then-n-eq0 : goal.returns-then-n-eq0
returns-then-n-eq0 c = none-written _ _ _ _ c.if-n-eq0.true

pub loop-i-init : goal.loop-i-init
loop-i-init c = begun _ _ _ _ _ _ (omega arith) c.flag_at.ensures c.constant_word-before.ensures c.requires.1.1

pub write_places-count-requires : goal.write_places-count-requires
write_places-count-requires c = (
  word-room _ _ _ _ _ _ _ _ c.loop-i.invariant _ _ c.word_from-w.ensures c.changed_flags.ensures (omega arith),
  omega (arith, c.requires.1.0),
)

pub loop-i-preserved : goal.loop-i-preserved
loop-i-preserved c =
    word-on _ _ _ _ _ _ _ _ c.loop-i.invariant _ _ c.word_from-w.ensures c.changed_flags.ensures (omega arith) _ _ _
    c.write_places-count.ensures.ends c.write_places-count.ensures.count (omega arith)

pub write_places-count-requires-2 : goal.write_places-count-requires-2
write_places-count-requires-2 c =
    let u = passed _ _ _ _ _ _ _ _ (c.args.n / 64) (omega arith) c.loop-i.invariant in (
      last-room _ _ _ _ _ _ _ _ u _ _ c.word_from-w-2.ensures c.changed_flags-2.ensures _ c.low_flags-last.ensures
          (omega arith) (omega arith),
      omega (arith, c.requires.1.0),
    )

pub write_end-requires : goal.write_end-requires
write_end-requires c =
    let v = passed _ _ _ _ _ _ _ _ (c.args.n / 64) (omega arith) c.loop-i.invariant in
    let u =
    last-on _ _ _ _ _ _ _ _ v _ _ c.word_from-w-2.ensures c.changed_flags-2.ensures _ c.low_flags-last.ensures
    (omega arith) (omega arith) _ _ c.write_places-count-2.ensures.ends c.write_places-count-2.ensures.count in
    (omega (arith, u.room), omega (arith, c.requires.1.0))

pub returns : goal.returns
returns c =
    let u = passed _ _ _ _ _ _ _ _ (c.args.n / 64) (omega arith) c.loop-i.invariant in
    last-written _ _ _ _ _ _ _ _ u _ _ c.word_from-w-2.ensures c.changed_flags-2.ensures _ c.low_flags-last.ensures
    (omega arith) (omega arith) _ _ _ c.write_places-count-2.ensures.ends c.write_places-count-2.ensures.count c.write_end.ensures
