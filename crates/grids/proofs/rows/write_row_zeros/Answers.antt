-- One more row in each iteration (`set-listing`): its flags are a stretch of the bytes (`row-stretch`), of which the ones are counted.
use Rattle.std.proofs.Common.{◌∙◌, arith}
use Rattle.words.proofs.flags.Windows.{length-window}
use Rattle.masks.proofs.utils.PartLaws.{ones-most}
use Rattle.grids.specs.Grid.{row_zeros}
use Rattle.grids.proofs.grid.ListingLaws.{listing-none, set-listing}
use Rattle.grids.proofs.rows.RowZeros.{all_rows, row-zeros}
use Rattle.grids.proofs.rows.write_row_zeros.Goals as goal

pub overflow_sub-counts : goal.overflow_sub-counts
overflow_sub-counts c = ones-most _ _ _ (length-window _ _ _) c.count_ones-ones.ensures

pub loop-row-init : goal.loop-row-init
loop-row-init c = listing-none _ _

pub loop-row-preserved : goal.loop-row-preserved
loop-row-preserved c =
    set-listing _ _ _ _ _ c.loop-row.invariant (row-zeros _ _ _ _ _ _ c.loop-row-test.true c.count_ones-ones.ensures)

pub returns : goal.returns
unfolding row_zeros
returns c = c.loop-row.invariant ∙ all_rows _ _ _ _ _ (omega arith)
