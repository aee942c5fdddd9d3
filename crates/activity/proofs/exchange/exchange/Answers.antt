-- Two halves (`exchanged-halves`), each of which counts the old word's flags (`holds-low`, `holds-high`).
use Rattle.std.proofs.Common.{length-take, arith}
use Rattle.activity.proofs.window.WindowLaws.{holds-low, holds-high, second-long, exchanged-halves}
use Rattle.activity.proofs.exchange.exchange.Goals as goal

pub exchange_half-requires : goal.exchange_half-requires
exchange_half-requires c =
    (omega (arith, c.told-counts, length-take 32 c.args.counts.now), c.single_flags-tests.ensures, omega arith, holds-low _ _ c.requires)

pub exchange_half-requires-2 : goal.exchange_half-requires-2
exchange_half-requires-2 c = (
  second-long c.args.counts.now _ c.exchange_half.ensures.0 c.told-counts,
  c.single_flags-tests.ensures,
  omega arith,
  holds-high c.args.counts.now _ c.exchange_half.ensures.0 _ c.requires,
)

pub returns : goal.returns
returns c =
    exchanged-halves c.args.counts.now _ c.exchange_half.ensures.0 _ _ _ c.told-counts c.exchange_half-2.ensures.0 c.exchange_half.ensures.1
    c.exchange_half-2.ensures.1
