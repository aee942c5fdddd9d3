-- The ones are at most the flags (`count-le`), which are as many as were asked for (`length-window`).
use Rattle.std.proofs.Common.{arith}
use Rattle.words.specs.Flags.{flags_of}
use Rattle.words.specs.Loops.{stretch}
use Rattle.words.proofs.counts.Counting.{count-le}
use Rattle.words.proofs.flags.Windows.{length-window}
use Rattle.uses.proofs.counting.idle.Goals as goal

pub overflow_sub-result : goal.overflow_sub-result
overflow_sub-result c =
    omega (
      arith,
      c.count_ones.ensures,
      count-le (stretch c.args.bytes.now c.args.first c.args.trucks),
      length-window (flags_of c.args.bytes.now) c.args.first c.args.trucks,
    )

pub returns : goal.returns
returns c =
    record {
      all = omega (
        arith,
        c.count_ones.ensures,
        count-le (stretch c.args.bytes.now c.args.first c.args.trucks),
        length-window (flags_of c.args.bytes.now) c.args.first c.args.trucks,
      );
    }
