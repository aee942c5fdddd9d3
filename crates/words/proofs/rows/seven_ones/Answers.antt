-- Four full adders; each count is at most 64, so the sums fit.
use Rattle.std.proofs.Common.{arith}
use Rattle.words.proofs.counts.Counting.{count_word}
use Rattle.words.proofs.rows.RowLaws.{seven_sum}
use Rattle.words.proofs.rows.seven_ones.Goals as goal

pub overflow_mul-result : goal.overflow_mul-result
overflow_mul-result c = omega (arith, count_word _ _ c.ones_in_word-twos.ensures)

pub overflow_add-result : goal.overflow_add-result
overflow_add-result c = omega (arith, count_word _ _ c.ones_in_word-ones.ensures, count_word _ _ c.ones_in_word-twos.ensures)

pub overflow_mul-result-2 : goal.overflow_mul-result-2
overflow_mul-result-2 c = omega (arith, count_word _ _ c.ones_in_word-fours.ensures)

pub overflow_add-result-2 : goal.overflow_add-result-2
overflow_add-result-2 c =
    omega (
      arith,
      count_word _ _ c.ones_in_word-ones.ensures,
      count_word _ _ c.ones_in_word-twos.ensures,
      count_word _ _ c.ones_in_word-fours.ensures,
    )

pub returns : goal.returns
returns c = search seven_sum
