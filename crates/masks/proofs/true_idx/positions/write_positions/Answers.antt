-- With a mask by its words (`masked-written`), without one as a row (`row_written`).
use native.Mathlib.Omega.{arith}
use Rattle.masks.proofs.true_idx.PositionLaws.{masked-written, row_written}
use Rattle.masks.proofs.true_idx.TrueIdxLaws.{masked-allowed, true-allowed}
use Rattle.masks.proofs.true_idx.positions.write_positions.Goals as goal

pub invariant_of-span : goal.invariant_of-span
invariant_of-span c =
    let a = masked-allowed _ _ c.if-cursor.true c.requires in
    record { ends = omega (arith, a.starts, a.short); short = a.short; inside = a.inside }

pub write_words-requires : goal.write_words-requires
write_words-requires c = (masked-allowed _ _ c.if-cursor.true c.requires).reached

pub overflow_sub-cursor : goal.overflow_sub-cursor
overflow_sub-cursor c = (true-allowed _ _ c.requires).reached

pub write_run-requires : goal.write_run-requires
write_run-requires c =
    let a = true-allowed _ _ c.requires in
    (omega (arith, c.min-n.ensures), omega (arith, a.short, a.reached, c.min-n.ensures))

pub returns-then-cursor : goal.returns-then-cursor
returns-then-cursor c =
    let both = masked-written _ _ _ _ _ c.if-cursor.true c.write_words.ensures.count c.write_words.ensures.positions in
    record { count = both.0; positions = both.1 }

pub returns : goal.returns
returns c =
    let both = row_written _ _ _ _ _ c.if-cursor.false c.min-n.ensures c.write_run.ensures in
    record { count = both.0; positions = both.1 }
