-- At most one flag has no edge (`edges_few`); else the edges are the ones of the `xor` with the list moved by one flag (`edges-many`).
use Rattle.masks.proofs.compare.CompareLaws.{edges_few, edges-many}
use Rattle.masks.proofs.span.CheckedSpan.edges.Goals as goal

pub returns-then-self-le1 : goal.returns-then-self-le1
returns-then-self-le1 c = edges_few _ _ _ c.if-self-le1.true

pub returns : goal.returns
returns c = edges-many _ _ _ _ c.if-self-le1.false c.count_ones_of.ensures
