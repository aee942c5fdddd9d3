-- If all words are whole and in range the kernel's n words are the stretch (`count-stretch`, `write-stretch`); else by two passes.
use Rattle.std.proofs.Common.{arith}
use Rattle.words.proofs.counts.Counting.{count-stretch}
use Rattle.words.proofs.loops.Writing.{write-stretch}
use Rattle.words.proofs.counts.copy_count.Goals as goal

pub returns-then-start-eq0 : goal.returns-then-start-eq0
returns-then-start-eq0 c =
    let lane = c.new-lane.ensures.source in
    record {
      ones = count-stretch _ _ _ _ _ _ (rw lane.0 at c.copy_words.ensures.ones) (omega (arith, lane.1)) (omega arith);
      flags = write-stretch _ _ _ _ _ _ _ (rw lane.0 at c.copy_words.ensures.flags) (omega (arith, lane.1)) (omega arith) (omega arith);
    }

pub returns : goal.returns
returns c =
    let lane = c.new-lane-2.ensures in
    record {
      ones = count-stretch _ _ _ _ _ _ (rw lane.source at c.copy_words-2.ensures.ones) lane.start (omega arith);
      flags = write-stretch _ _ _ _ _ _ _ (rw lane.source at c.copy_words-2.ensures.flags) lane.start (omega arith) (omega arith);
    }
