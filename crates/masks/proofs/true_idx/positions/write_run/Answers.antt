-- `row-mid`: a row over a part of the output.
use Rattle.masks.proofs.true_idx.PositionLaws.{row-mid}
use Rattle.masks.proofs.true_idx.positions.write_run.Goals as goal

pub returns : goal.returns
returns c = row-mid _ _ _ _ _ c.requires.0 c.write_row.ensures
