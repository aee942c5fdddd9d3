-- `count-three` adds the counts of the three parts; each is at most its part's length, so the sums fit.
use native.Mathlib.Omega.{arith}
use Rattle.masks.specs.Workers.{split_flags}
use Rattle.words.proofs.counts.Counting.{low-within, count-within}
use Rattle.masks.proofs.utils.PartLaws.{count-taken, count-three}
use Rattle.masks.proofs.span_ends.SplitSpan.ones.Goals as goal

pub overflow_add-result : goal.overflow_add-result
overflow_add-result c =
    let s = c.args.self.now.parts in
    omega (
      arith,
      low-within s.prefix_len s.prefix _ _ c.low_flags.ensures c.ones_in_word-first.ensures,
      count-within _ _ _ _ c.count_ones-middle.ensures,
    )

pub overflow_add-result-2 : goal.overflow_add-result-2
overflow_add-result-2 c =
    let s = c.args.self.now.parts in
    omega (
      arith,
      low-within s.prefix_len s.prefix _ _ c.low_flags.ensures c.ones_in_word-first.ensures,
      count-within _ _ _ _ c.count_ones-middle.ensures,
      low-within s.suffix_len s.suffix _ _ c.low_flags-2.ensures c.ones_in_word-last.ensures,
    )

pub returns : goal.returns
unfolding split_flags
returns c =
    let s = c.args.self.now.parts in
    count-three _ _ _ _ _ _ (count-taken s.prefix_len s.prefix _ _ c.low_flags.ensures c.ones_in_word-first.ensures)
    c.count_ones-middle.ensures (count-taken s.suffix_len s.suffix _ _ c.low_flags-2.ensures c.ones_in_word-last.ensures)
