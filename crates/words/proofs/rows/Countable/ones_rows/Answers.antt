-- The invariant: `ones` counts the first i words of each row. One more word of each is `rows_step`; the rows in full are the stretch
-- (`rows_all`).
use Rattle.std.proofs.Common.{arith}
use Rattle.words.proofs.rows.RowLaws.{rows_none, rows-most, seven_most, rows_step, rows_all}
use Rattle.words.proofs.rows.Countable.ones_rows.Goals as goal

pub loop-i-init : goal.loop-i-init
loop-i-init c = rows_none _ _ _

pub overflow_add-ones : goal.overflow_add-ones
overflow_add-ones c = omega (arith, rows-most _ _ _ _ _ c.loop-i.invariant, seven_most _ _ _ _ _ _ _ _ c.seven_ones-ones.ensures)

pub loop-i-preserved : goal.loop-i-preserved
loop-i-preserved c =
    rows_step _ _ _ _ _ _ _ _ _ _ _ _ _ _ _ _ _ _ _ _ c.loop-i.invariant c.word-a.ensures c.word-b.ensures c.word-c.ensures c.word-d.ensures
    c.word-e.ensures c.word-f.ensures c.word-g.ensures c.seven_ones-ones.ensures
    (omega arith) (omega arith) (omega arith) (omega arith) (omega arith) (omega arith) (omega arith)

pub returns : goal.returns
returns c = rows_all _ _ _ c.loop-i.i _ c.loop-i.invariant (omega arith) (omega arith)
