-- The laws of the answer at any width.
use Rattle.std.proofs.Common.{arith}
use Rattle.words.proofs.counts.Counting.{ones-bits}
use Rattle.words.proofs.nth.NthLaws.{found, missing}
use Rattle.words.proofs.nth.nth_set_bit.Goals as goal

pub descend-requires : goal.descend-requires
descend-requires g c = (c.requires.0, omega (arith, ones-bits g.row.WIDTH _ c.requires.1))

pub returns-then-n-from : goal.returns-then-n-from
returns-then-n-from g c = found _ _ _ _ c.requires.1 (rw c.from.ensures at c.if-n-from.true) c.descend.ensures

pub returns-else-n-from : goal.returns-else-n-from
returns-else-n-from g c = missing _ _ _ c.requires.1 (rw c.from.ensures at c.if-n-from.false)
