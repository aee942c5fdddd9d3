-- The rows and what is left (`rows-rest`).
use Rattle.std.proofs.Common.{arith}
use Rattle.words.proofs.counts.Counting.{count-within}
use Rattle.words.proofs.rows.RowLaws.{rows-rest}
use Rattle.words.proofs.rows.Countable.ones_many.Goals as goal

pub overflow_add-result : goal.overflow_add-result
overflow_add-result c = omega (arith, count-within _ _ _ _ c.ones_rows-rows.ensures, count-within _ _ _ _ c.ones_single-rest.ensures)

pub returns : goal.returns
returns c =
    rows-rest _ _ _ _ _ _ _ _ c.ones_rows-rows.ensures (rw c.part.ensures.0 at c.ones_single-rest.ensures) (omega arith) (omega arith)
