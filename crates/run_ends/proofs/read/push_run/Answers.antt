-- The run ends inside the word in progress (`run-inside`), or this is full, and copies follow it (`run-past`).
use Rattle.std.proofs.Common.{◌+◌, ◌-◌, ◌/◌, ◌<◌, arith}
use Rattle.run_ends.proofs.read.WordLaws.{run-inside, run-past, word-full, words-between}
use Rattle.run_ends.proofs.read.push_run.Goals as goal

pub returns-then-last-next : goal.returns-then-last-next
returns-then-last-next c old all inv run =
    run-inside old _ all _ _ _ _ _ _ inv run c.requires.0 c.constant_word-fill.ensures c.concat_low-joined.ensures c.if-last-next.true

pub close_word-requires : goal.close_word-requires
close_word-requires c = (omega (arith, c.requires.0), c.requires.1)

pub returns : goal.returns
returns c old all inv run =
    let further : c.args.last / 64 < c.args.next / 64 = omega (arith, c.requires.0) in
    run-past old _ all _ _ _ _ _ _ inv run c.requires.0 c.constant_word-fill.ensures c.concat_low-joined.ensures _ further
    (c.close_word.ensures old all inv.whole
    (word-full old _ all _ _ _ _ _ _ inv run c.requires.0 c.constant_word-fill.ensures c.concat_low-joined.ensures further)
    (words-between old _ all _ _ _ _ _ _ inv run c.requires.0 c.constant_word-fill.ensures c.concat_low-joined.ensures
    (c.args.last / 64 + 1) (c.args.next / 64 - (c.args.last / 64 + 1)) (omega arith) (omega (arith, further))))
