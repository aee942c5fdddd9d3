-- The grid of an accepted row (`row_accepted`), and its flags (`at_row`).
use Rattle.grids.proofs.calling.Flags.{at_row, row_accepted}
use Rattle.uses.proofs.pits.pit_in_grid.Goals as goal

pub returns-clause-whole : goal.returns-clause-whole
returns-clause-whole c = (row_accepted _ _ _ _ _ c.in_ok-row.ensures.refused).0.grid

pub returns-clause-each : goal.returns-clause-each
returns-clause-each c j h = at_row _ _ _ _ _ _ j c.in_ok-row.ensures.refused c.in_ok-row.ensures.mask h
